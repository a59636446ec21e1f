-- The input of words is what they are given.
use Rattle.std.proofs.Common.{◌≡◌, ℕ, ◌+◌, ◌<◌, ◌≤◌, Bool, true, false, List, ◌++◌, length, Option, Some, None, sym, ap, ◌∙◌, subst, arith, append-nil}
use Rattle.std.proofs.lemmas.List.{length-append}
use Rattle.std.specs.Io.KnownBytes.{Consumes}
use Rattle.ame_io.specs.Reads.{IsReadWhole, GivesMoreThan}
use Rattle.ame_lex.specs.Bytes.{Text}
use Rattle.ame_cli.specs.declared.command.Command.{Command}
use Rattle.ame_cli.specs.Grammar.{SpellsCommand}
use Rattle.ame_app.specs.declared.parts.Front.{Front}
use Rattle.ame_app.specs.Verbs.{reads_source, TakesInput}
use Rattle.ame_app.specs.Calls.{Given, Call, IsInput, Asks}
use Rattle.ame_app.specs.Causes.{IsReader}
use Rattle.ame_app.specs.Complete.{AreBytesOf, IsGivenBytes}
use Rattle.ame_app.proofs.TurnedLemmas.{SpellOne}

some-same : (xs text : List ℕ) → Some xs ≡ Some text → xs ≡ text
some-same xs text e = cc

-- all bytes that are left are read
whole-is : (a b : Option (List ℕ)) (bytes text : List ℕ) → IsReadWhole a b bytes → a ≡ Some text → bytes ≡ text
whole-is None b bytes text read e = absurd (cc)
whole-is (Some xs) None bytes text read e = absurd read.taken
whole-is (Some xs) (Some ys) bytes text read e =
    sym (append-nil bytes) ∙ ap (λ (l : List ℕ). bytes ++ l) (sym read.at_end) ∙ sym read.taken ∙ some-same xs text e

-- the bytes taken from the start are at most as many as all that are left
taken-within : (a b : Option (List ℕ)) (bytes text : List ℕ) → Consumes a b bytes → a ≡ Some text → length bytes ≤ length text
taken-within None b bytes text taken e = absurd (cc)
taken-within (Some xs) None bytes text taken e = absurd taken
taken-within (Some xs) (Some ys) bytes text taken e =
    let all : length bytes + length ys ≡ length text = sym (length-append bytes ys) ∙ ap length (sym taken ∙ some-same xs text e) in
    omega (arith, all)

input-is : (reads : Bool) (source after : Given) (bytes given : List ℕ) → IsInput reads source after bytes → AreBytesOf reads source given → bytes ≡ given
input-is true source after bytes given input is = whole-is source.left after.left bytes given input.whole is
input-is false source after bytes given input is = input.0 ∙ sym is

more-is : (reads : Bool) (source after : Given) (limit : ℕ) (given : List ℕ) → reads ≡ true → GivesMoreThan limit source.left after.left
    → AreBytesOf reads source given → limit < length given
more-is true source after limit given e more is =
    let over = more.more in
    let within = taken-within source.left after.left more.bytes given more.taken is in
    omega (arith, over, within)
more-is false source after limit given e more is = absurd (cc)

module _ (one : SpellOne) (call : Call) (given : List ℕ) (is : IsGivenBytes call given) where
  -- words that spell a command spell that one
  pub command-is : (command : Command) → SpellsCommand call.words command → command ≡ is.command
  command-is command spelled = one call.words command is.command spelled is.spelled

  given-as : (command : Command) → SpellsCommand call.words command → AreBytesOf (reads_source command) call.source given
  given-as command spelled = subst (λ (k : Command). AreBytesOf (reads_source k) call.source given) (sym (command-is command spelled)) is.given

  -- the bytes taken as input are the bytes given
  pub input-given : (command : Command) → SpellsCommand call.words command → (bytes : List ℕ)
      → IsInput (reads_source command) call.source call.source_after bytes → bytes ≡ given
  input-given command spelled bytes input =
      input-is (reads_source command) call.source call.source_after bytes given input (given-as command spelled)

  -- and a command that asks takes that
  pub asked-takes : (command : Command) (front : Front) (text : Text) → Asks call command front text → TakesInput is.command given front text
  asked-takes command front text asked =
      subst (λ (k : Command). TakesInput k given front text) (command-is command asked.spelled)
      (subst (λ (l : List ℕ). TakesInput command l front text) (input-given command asked.spelled asked.text_is.bytes asked.text_is.input) asked.text_is.takes)

  pub asked-most : (command : Command) (front : Front) (text : Text) (limit : ℕ) → (asked : Asks call command front text)
      → length asked.text_is.bytes ≤ limit → length given ≤ limit
  asked-most command front text limit asked most =
      subst (λ (l : List ℕ). length l ≤ limit) (input-given command asked.spelled asked.text_is.bytes asked.text_is.input) most

  -- a source that gives more is given more
  pub given-more : (limit : ℕ) → (reader : IsReader call) → GivesMoreThan limit call.source.left call.source_after.left → limit < length given
  given-more limit reader more =
      more-is (reads_source reader.command) call.source call.source_after limit given reader.reads more (given-as reader.command reader.spelled)
