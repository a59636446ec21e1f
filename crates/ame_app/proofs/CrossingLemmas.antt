-- Code may go to other threads, and be shared by them.
use denote.Param.Send.{IsSend, IsSync, sendable}
use Rattle.std.proofs.Crossing.{crosses}
use Rattle.ame_term.proofs.types.Ty.TheLaws.TheKnot as types
use Rattle.ame_term.proofs.term.Term.TheLaws.TheKnot as terms
use Rattle.ame_code.proofs.node.Node.TheSendSync as node
use Rattle.ame_code.proofs.node.NodeNo.TheSendSync as number
use Rattle.ame_code.proofs.node.Const.TheSendSync as const
use Rattle.ame_term.proofs.types.Binary.TheSendSync as binary
use Rattle.ame_term.proofs.types.Sort.TheSendSync as sort
use Rattle.ame_term.proofs.types.TyNo.TheSendSync as place
use Rattle.ame_term.proofs.types.Unary.TheSendSync as unary
use Rattle.ame_term.specs.contracts.types.Ty as Ty
use Rattle.ame_term.specs.contracts.term.Term as Term
use Rattle.ame_term.specs.contracts.accepted.Accepted as Accepted
use Rattle.ame_term.specs.contracts.program.Program as Program
use Rattle.ame_code.specs.contracts.node.Node as Node
use Rattle.ame_code.specs.contracts.code.Code as Code

ruleset parts_send = (binary.the_send, binary.the_field_send, sort.the_send, sort.the_field_send, place.the_send, place.the_field_send, unary.the_send, unary.the_field_send, number.the_send, number.the_field_send, const.the_send, const.the_field_send)

program_send : IsSend Program.the_field.row
program_send = search (sendable, crosses, types.crosses, types.crosses_both, terms.crosses, terms.crosses_both) depth 20 fits 4000

type_send : IsSend Ty.the_row
type_send = search (sendable, crosses, types.crosses, types.crosses_both) depth 20

accepted_send : IsSend Accepted.the_field.row
accepted_send = search (sendable, crosses, type_send, types.crosses, types.crosses_both, program_send) depth 20 fits 4000

node_send : IsSend Node.the_row
node_send = search (sendable, crosses, parts_send, node.the_send) depth 20 fits 4000

pub code_send : IsSend Code.the_field.row
code_send = search (sendable, crosses, accepted_send, node_send) depth 20 fits 4000

ruleset parts_sync = (binary.the_sync, binary.the_field_sync, sort.the_sync, sort.the_field_sync, place.the_sync, place.the_field_sync, unary.the_sync, unary.the_field_sync, number.the_sync, number.the_field_sync, const.the_sync, const.the_field_sync)

ruleset term_parts = (sendable, crosses, sort.the_sync, sort.the_field_sync, place.the_sync, place.the_field_sync, types.crosses, types.crosses_both)

term_sync : IsSync Term.the_field.row
term_sync =
    terms.sync-Term (search term_parts depth 20) (search term_parts depth 20) (search term_parts depth 20) (search term_parts depth 20) (search term_parts depth 20)
    (search term_parts depth 20) (search term_parts depth 20) (search term_parts depth 20) (search term_parts depth 20) (search term_parts depth 20)
    (search term_parts depth 20) (search term_parts depth 20) (search term_parts depth 20)

program_sync : IsSync Program.the_field.row
program_sync = search (sendable, crosses, term_sync) depth 20 fits 4000

type_sync : IsSync Ty.the_row
type_sync = search (sendable, crosses, types.crosses, types.crosses_both) depth 20

accepted_sync : IsSync Accepted.the_field.row
accepted_sync = search (sendable, crosses, type_sync, types.crosses, types.crosses_both, program_sync) depth 20 fits 4000

node_sync : IsSync Node.the_row
node_sync = search (sendable, crosses, parts_sync, node.the_sync) depth 20 fits 4000

pub code_sync : IsSync Code.the_field.row
code_sync = search (sendable, crosses, accepted_sync, node_sync) depth 20 fits 4000
