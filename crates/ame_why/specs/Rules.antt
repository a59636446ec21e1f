-- The page of an error of types.
use Rattle.std.specs.Prelude.{◌++◌, ◌-◌, ◌==◌, ℕ, List, [], Option, Some, None, if◌then◌else◌, length, slice_get, codes, decimal}
use Rattle.ame_lex.specs.Bytes.{Text}
use Rattle.ame_lex.specs.declared.tokens.Token.{Token}
use Rattle.ame_term.specs.Shown.{Shown, TypeFault, type_mismatch, no_function, wrong_effect, wrong_sort, no_reference, misplaced_block}
use Rattle.ame_term.specs.Shown.{misplaced_unprotected, no_device, not_unit, no_pair}
use Rattle.ame_term.specs.declared.types.Sort.{Sort}
use Rattle.ame_term.specs.declared.types.Effect.{Effect}
use Rattle.ame_print.specs.Tokens.{type_text}
use Rattle.ame_why.specs.Binders.{part_at, word_at, tokens_known, binder_words}
use Rattle.ame_why.specs.Open.{open_before}
use Rattle.ame_why.specs.Placed.{placed_within}

-- an effect and a sort in words
abbrev pub effect_words : Effect → List ℕ
effect_words Effect.Protected = codes "effect p"
effect_words Effect.Unprotected = codes "effect u"
effect_words Effect.Either = codes "effect a"

abbrev pub sort_words : Sort → List ℕ
sort_words Sort.Protected = codes "sort p"
sort_words Sort.Unprotected = codes "sort u"

-- a label and what an error shows, on a line; these words introduce a device; nothing if there is nothing to show
abbrev pub shown_line : List ℕ → List ℕ → Shown → List ℕ
shown_line label device Shown.Nothing = []
shown_line label device (Shown.Ty ty) = label ++ type_text ty ++ codes "\n"
shown_line label device (Shown.Effect effect) = label ++ effect_words effect ++ codes "\n"
shown_line label device (Shown.Sort sort) = label ++ sort_words sort ++ codes "\n"
shown_line label device (Shown.Device number) = label ++ device ++ decimal number ++ codes "\n"

abbrev pub found_line : Shown → List ℕ
found_line found = shown_line (codes "found: ") (codes "device ") found

abbrev pub wanted_line : Shown → List ℕ
wanted_line wanted = shown_line (codes "expected: ") (codes "a device below ") wanted

-- the rule of effects, and that of sorts
abbrev pub effect_rule : List ℕ
effect_rule =
    codes "wrong effect: protected code calls functions of effect `p` or `a`, "
    ++ codes "unprotected code those of `u` or `a`; `call` and `peek` are for unprotected code\n"

abbrev pub sort_rule : List ℕ
sort_rule =
    codes "wrong sort: protected code may only access locations of sort `p`, unprotected code only those of sort `u`\n"

-- a rule in words
abbrev pub rule_words : ℕ → List ℕ
rule_words rule =
    if rule == type_mismatch then codes "argument with the wrong type\n"
    else (if rule == no_function then codes "not a function\n"
    else (if rule == wrong_effect then effect_rule
    else (if rule == wrong_sort then sort_rule
    else (if rule == no_reference then codes "not a reference\n"
    else (if rule == misplaced_block then codes "`blockUntil` in unprotected code: only protected code can be rolled back\n"
    else (if rule == misplaced_unprotected then codes "already in unprotected code\n"
    else (if rule == no_device then codes "no device with this number\n"
    else (if rule == not_unit then codes "this result is discarded, so its type must be `Unit`\n"
    else (if rule == no_pair then codes "not a pair\n"
    else codes "\n")))))))))

-- the number of the argument with the wrong type, and its form's word; without a form only that an argument has the wrong type
abbrev pub mismatch_words : Text → List Token → ℕ → Option ℕ → List ℕ
mismatch_words text tokens place None = rule_words type_mismatch
mismatch_words text tokens place (Some form) =
    codes "argument " ++ decimal (part_at form place tokens) ++ codes " of `" ++ word_at text form tokens ++ codes "` has the wrong type\n"

-- the innermost of some forms, which is the last
abbrev pub innermost : List ℕ → Option ℕ
innermost forms = slice_get forms (length forms - 1)

-- the rule that is broken; for a wrong type also the argument's number and form: the innermost that is open at its place
unfoldable pub fault_words : Text → TypeFault → List ℕ
fault_words text fault =
    let tokens = tokens_known text in
    if fault.rule == type_mismatch then mismatch_words text tokens fault.place (innermost (open_before fault.place tokens)) else rule_words fault.rule

-- the place of an error, the rule in words, the binder of the rule's name, and what was found and expected
abbrev pub fault_page : Text → TypeFault → List ℕ
fault_page text fault =
    placed_within text fault.place ++ (fault_words text fault ++ binder_words text fault ++ found_line fault.found ++ wanted_line fault.wanted)
