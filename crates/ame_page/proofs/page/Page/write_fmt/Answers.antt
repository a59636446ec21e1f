use Rattle.std.proofs.Common.{◌≡◌, ◌++◌, List, ℕ, Option, Some, None}
use Rattle.std.specs.Fmt.{WritesText, AppendsText}
use Rattle.std.proofs.lemmas.Fmt.{contents_after_writes}
use Rattle.ame_page.proofs.page.Page.write_fmt.Goals as goal

appended : (old new : List ℕ) (text : Option (List ℕ)) → WritesText (λ page bytes after. after ≡ page ++ bytes) old text new → AppendsText old new text
appended old new None writes = writes
appended old new (Some bytes) writes =
    contents_after_writes (λ page added after. after ≡ page ++ added) (λ page. page) (λ _ _ _ t. t) old bytes new writes

pub returns-in-Ok : goal.returns-in-Ok
returns-in-Ok g c = appended c.args.self.now c.write.new.self (g.D.Display.output c.args.text) c.in-Ok.ensures.writes
