use Rattle.std.proofs.Common.{List, ℕ, subst}
use Rattle.ame_c.specs.CallResult.{texts}
use Rattle.ame_c.specs.Out.{bytes_in, IsHandedOut}
use Rattle.ame_c.proofs.call_result.CallResult.hand_out.Goals as goal

pub returns : goal.returns
returns c = λ command bytes tells.
    let made = c.args.self.now in
    record {
      told = made.told;
      made = texts (bytes_in made.lines) made.certificate.items made.schedule.items;
      tells = tells;
      is_told = c.tell.ensures;
      lines = subst (λ (t : List ℕ). IsHandedOut t c.args.lines.now c.hand_out.new.room c.hand_out.new.whole) c.as_bytes.ensures c.hand_out.ensures;
      certificate = subst (λ (t : List ℕ). IsHandedOut t c.args.certificate.now c.hand_out-2.new.room c.hand_out-2.new.whole) c.deref.ensures.value c.hand_out-2.ensures;
      schedule = subst (λ (t : List ℕ). IsHandedOut t c.args.schedule.now c.hand_out-3.new.room c.hand_out-3.new.whole) c.deref-2.ensures.value c.hand_out-3.ensures;
    }
