use Rattle.std.proofs.Common.{◌≡◌, ℕ, ◌++◌, OnOk, rules, sym, subst}
use Rattle.std.specs.Prelude.{codes}
use Rattle.ame_machine.specs.declared.wants.Wants.{Wants}
use Rattle.ame_why.specs.Certificates.{between, want_words}
use Rattle.ame_why.proofs.entry.append_want.Goals as goal

pub returns-in-Write : goal.returns-in-Write
returns-in-Write c =
    let same : c.from.result ≡ c.in-Write.location.0 = search rules in
    subst (λ (w : Wants). OnOk c.append_between.result (c.append_between.new.message ≡ c.args.message.now ++ want_words w)) (sym c.in-Write.is)
    (subst (λ (n : ℕ). OnOk c.append_between.result
    (c.append_between.new.message ≡ c.args.message.now ++ between (codes "the task writes location ") n (codes ", which doesn't exist"))) same c.append_between.ensures)
