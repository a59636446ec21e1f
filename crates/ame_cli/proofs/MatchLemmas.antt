-- The answers of the getters of clap's matches.
use Rattle.std.proofs.Common.{◌≡◌, ◌≢◌, ◌≤◌, List, [], ◌∷◌, true, false, true≢false, inl, inr, Option, Some, None, map, length, refl, sym, ap, ◌∙◌, arith, le-leb, eqb-true}
use Rattle.std.proofs.lemmas.List.{length-map}
use Rattle.std.specs.Prelude.{option_map, Box, ◌&&◌, ◌==◌}
use Rattle.std.specs.List.{list_all}
use Rattle.std.specs.Box.{box_value}
use Rattle.clap.specs.Words.{Kinds, HasKind, kind_of, Row, subcommand_rows_of, subcommand_name_of, subcommand_rows}
use Rattle.clap.specs.declared.error.Error.{Error}
use Rattle.clap.specs.declared.error.ErrorKind.TheVariants.{OutOfMemory}
use Rattle.clap.specs.declared.ArgMatches.{ArgMatches}
use Rattle.clap.specs.declared.parser.matches.SubCommand.{SubCommand}
use Rattle.clap.specs.declared.parser.matches.ArgMatches.TheViews.{out-ArgMatches, out-SubCommand}
use Rattle.ame_cli.specs.Limits.{word_limit}
use Rattle.ame_cli.specs.Items.{ArgWord}
use Rattle.ame_cli.specs.Screen.{may_stand, may_be_read}

-- the subcommand's name and rows, one by one and together
pub subcommand_is : (m : ArgMatches) (name : ArgWord) (rows : List Row) → Some name ≡ subcommand_name_of m
    → Some rows ≡ option_map (λ (p : ArgWord × List Row). p.1) (subcommand_rows_of m) → subcommand_rows_of m ≡ Some (name, rows)
subcommand_is m name rows e f = go (out-ArgMatches m).subcommand e f
  where
    go : {Z : Type 0} (o : Option (Box SubCommand Z)) → Some name ≡ option_map (λ b. (out-SubCommand (box_value b)).name.now) o
        → Some rows ≡ option_map (λ (p : ArgWord × List Row). p.1) (subcommand_rows o) → subcommand_rows o ≡ Some (name, rows)
    go None p q = cc
    go (Some b) p q = cc

-- an error other than out of memory comes of a fault
pub kind_faults : (kinds : Kinds) (e : Error) → HasKind kinds e → kind_of e ≢ OutOfMemory → kinds ≢ []
kind_faults [] e (inl memory) differs = λ none. differs memory
kind_faults [] e (inr among) differs = λ none. among
kind_faults (k ∷ rest) e has differs = λ none. cc

-- a list of texts that is screened, by any view of its words
all_stand-map : {A : Type 0} (f : A → ArgWord) (words : List A) → list_all (λ word. may_stand (f word)) words ≡ list_all may_stand (map f words)
all_stand-map f [] = refl
all_stand-map f (word ∷ rest) = ap (λ b. may_stand (f word) && b) (all_stand-map f rest)

pub screened : {A : Type 0} (f : A → ArgWord) (words : List A) → length words ≤ word_limit → list_all (λ word. may_stand (f word)) words ≡ may_be_read (map f words)
screened f words short =
    all_stand-map f words ∙ sym (ap (λ b. b && list_all may_stand (map f words)) (le-leb (length (map f words)) word_limit (omega (arith, length-map words f))))

-- a list without words, by any view of them
pub is_nothing : {A : Type 0} (f : A → ArgWord) (words : List A) → (length words == 0) ≡ true → map f words ≡ []
is_nothing f [] e = refl
is_nothing f (word ∷ rest) e =
    let none : length (word ∷ rest) ≡ 0 = eqb-true (length (word ∷ rest)) 0 e in
    absurd (omega arith)

pub is_something : {A : Type 0} (f : A → ArgWord) (words : List A) → (length words == 0) ≡ false → map f words ≢ []
is_something f [] e = λ same. true≢false e
is_something f (word ∷ rest) e = λ same. cc
