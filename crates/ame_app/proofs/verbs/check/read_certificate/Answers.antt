use Rattle.ame_app.proofs.JudgedLemmas.{split-within}
use Rattle.ame_app.proofs.verbs.check.read_certificate.Goals as goal

pub slice_bounds-result-count : goal.slice_bounds-result-count
slice_bounds-result-count c = split-within c.args.bytes.now c.in-Some.end c.in-Some.start c.in-Some.ensures

pub slice_bounds-result-start : goal.slice_bounds-result-start
slice_bounds-result-start c = split-within c.args.bytes.now c.in-Some.end c.in-Some.start c.in-Some.ensures
