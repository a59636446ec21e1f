use Rattle.ame_calculus.proofs.OperatorLaws.{sum-wraps, difference-wraps, product-wraps, less-compares, same-compares}
use Rattle.ame_calculus.proofs.operators.operators_compute.Goals as goal

pub returns : goal.returns
returns c = record { sum = sum-wraps; difference = difference-wraps; product = product-wraps; less = less-compares; same = same-compares }
