use Rattle.std.proofs.Common.{◌≡◌, [], true, Result, Err, map, string_bytes, sym, ap, ◌∙◌, subst}
use Rattle.std.specs.Prelude.{option_and_then}
use Rattle.ame_cli.specs.Rows.{named_in}
use Rattle.ame_cli.specs.Screen.{may_be_read}
use Rattle.ame_cli.specs.Grammar.{SpellsCommand, SpellsNothing, no_words}
use Rattle.ame_cli.specs.declared.command.CliFail.{CliFail}
use Rattle.ame_cli.specs.declared.command.CliFail.TheVariants.{Usage}
use Rattle.ame_cli.specs.declared.command.Command.{Command}
use Rattle.ame_cli.specs.declared.command.Command.TheVariants.{Run}
use Rattle.ame_cli.proofs.MatchLemmas.{is_nothing, is_something}
use Rattle.ame_cli.proofs.SpellingLemmas.{err_spelled, found_nothing, found_spelled, ok_spelled, refused_nothing, screened_nothing, spelled_in_range}
use Rattle.ame_cli.proofs.read.read_words.Goals as goal

empty : (c : goal.After-default) → SpellsCommand (map string_bytes c.args.words.now) (Run c.default.result)
empty c =
    let nothing : map string_bytes c.args.words.now ≡ [] = is_nothing string_bytes c.args.words.now (sym c.is_empty.ensures ∙ c.if-is_empty.true) in
    subst (λ w. SpellsCommand w (Run c.default.result)) (sym nothing) (subst (λ o. SpellsCommand [] (Run o)) (sym c.default.ensures) no_words)

pub returns-then-is_empty-clause-ok : goal.returns-then-is_empty-clause-ok
returns-then-is_empty-clause-ok c = empty c

pub returns-then-is_empty-clause-spelled : goal.returns-then-is_empty-clause-spelled
returns-then-is_empty-clause-spelled c = ok_spelled (map string_bytes c.args.words.now) (Run c.default.result) (empty c)

pub returns-then-is_empty-clause-nothing : goal.returns-then-is_empty-clause-nothing
returns-then-is_empty-clause-nothing c = λ h. absurd (h (Run c.default.result) (empty c))

pub returns-then-is_empty-clause-ranges : goal.returns-then-is_empty-clause-ranges
returns-then-is_empty-clause-ranges c = spelled_in_range (map string_bytes c.args.words.now) (Run c.default.result) (empty c)

screened : (c : goal.Then-not-may_be_read) → SpellsNothing (map string_bytes c.args.words.now)
screened c = screened_nothing (map string_bytes c.args.words.now) (sym c.may_be_read.ensures ∙ c.if-not-may_be_read.true)

pub returns-then-not-may_be_read-clause-spelled : goal.returns-then-not-may_be_read-clause-spelled
returns-then-not-may_be_read-clause-spelled c = λ command is. absurd (screened c command is)

pub returns-then-not-may_be_read-clause-usage : goal.returns-then-not-may_be_read-clause-usage
returns-then-not-may_be_read-clause-usage c = λ same. screened c

is_usage : (fail : CliFail) → ◌≡◌ {A = Result Command CliFail} (Err fail) (Err Usage) → fail ≡ Usage
is_usage fail same = cc

-- clap refused the words, or memory ran out
pub returns-in-Err-clause-spelled : goal.returns-in-Err-clause-spelled
returns-in-Err-clause-spelled c =
    let words = map string_bytes c.args.words.now in
    let some = is_something string_bytes c.args.words.now (sym c.is_empty.ensures ∙ c.if-is_empty.false) in
    let read : may_be_read words ≡ true = sym c.may_be_read.ensures ∙ c.if-not-may_be_read.false in
    err_spelled words c.in-Err.fail (λ same. refused_nothing words some read (c.in-Err.ensures.usage same))

pub returns-in-Err-clause-usage : goal.returns-in-Err-clause-usage
returns-in-Err-clause-usage c =
    let words = map string_bytes c.args.words.now in
    let some = is_something string_bytes c.args.words.now (sym c.is_empty.ensures ∙ c.if-is_empty.false) in
    let read : may_be_read words ≡ true = sym c.may_be_read.ensures ∙ c.if-not-may_be_read.false in
    λ same. refused_nothing words some read (c.in-Err.ensures.usage (is_usage c.in-Err.fail same))

found : (c : goal.Joined-matches) → SpellsCommand (map string_bytes c.args.words.now) c.in-Some.command
found c =
    let words = map string_bytes c.args.words.now in
    let some = is_something string_bytes c.args.words.now (sym c.is_empty.ensures ∙ c.if-is_empty.false) in
    let read : may_be_read words ≡ true = sym c.may_be_read.ensures ∙ c.if-not-may_be_read.false in
    found_spelled words c.in-Some.command some read c.in-Ok.ensures.ok (c.in-Some.ensures ∙ ap (option_and_then (λ p. named_in p.0 p.1)) c.in-Ok.ensures.rows)

pub returns-in-Some-clause-ok : goal.returns-in-Some-clause-ok
returns-in-Some-clause-ok c = found c

pub returns-in-Some-clause-spelled : goal.returns-in-Some-clause-spelled
returns-in-Some-clause-spelled c = ok_spelled (map string_bytes c.args.words.now) c.in-Some.command (found c)

pub returns-in-Some-clause-ranges : goal.returns-in-Some-clause-ranges
returns-in-Some-clause-ranges c = spelled_in_range (map string_bytes c.args.words.now) c.in-Some.command (found c)

pub returns-in-Some-clause-nothing : goal.returns-in-Some-clause-nothing
returns-in-Some-clause-nothing c = λ h. absurd (h c.in-Some.command (found c))

-- the words aren't those of the verb
nothing : (c : goal.Joined-matches-2) → SpellsNothing (map string_bytes c.args.words.now)
nothing c =
    let words = map string_bytes c.args.words.now in
    let some = is_something string_bytes c.args.words.now (sym c.is_empty.ensures ∙ c.if-is_empty.false) in
    let read : may_be_read words ≡ true = sym c.may_be_read.ensures ∙ c.if-not-may_be_read.false in
    found_nothing words some read c.in-Ok.ensures.ok (c.in-None.ensures ∙ ap (option_and_then (λ p. named_in p.0 p.1)) c.in-Ok.ensures.rows)

pub returns-clause-spelled : goal.returns-clause-spelled
returns-clause-spelled c = λ command is. absurd (nothing c command is)

pub returns-clause-usage : goal.returns-clause-usage
returns-clause-usage c = λ same. nothing c
