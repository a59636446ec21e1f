-- A read moves the first of the bytes that were left to the buffer.
use Rattle.std.proofs.Common.{◌≡◌, drop, length, arith}
use Rattle.std.proofs.lemmas.Grind.{common_steps}
use Rattle.ame_io.proofs.ReadsLemmas.{read-front, read-end}
use Rattle.ame_io.proofs.mem_source.MemSourceSource.read.Goals as goal

pub returns-clause-bytes : goal.returns-clause-bytes
returns-clause-bytes c =
    let s = c.self.inside in
    let n = c.min-n.result in
    let is : c.args.self.now.left ≡ drop s.at s.bytes.items = grind arith in (
      read-front _ _ _ s.bytes.items s.at n is (grind (arith, common_steps)) (grind (arith, common_steps)),
      λ none _. read-end s.bytes.items s.at s.chunk (length c.args.buf.now) n (grind (arith, common_steps)) (grind arith) (grind arith) none,
    )
