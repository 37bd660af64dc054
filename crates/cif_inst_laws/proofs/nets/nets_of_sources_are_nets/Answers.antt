use Rattle.cif_inst_laws.proofs.Net.{net-stands}
use Rattle.cif_inst_laws.proofs.nets.nets_of_sources_are_nets.Goals as goal

pub returns : goal.returns
returns c = λ t keeps small few. net-stands t keeps small few (record {
  expressions = λ d k e. c.expressions_keep_their_kinds.ensures t d k e keeps small few;
  guards = λ d at all. c.guards_keep_their_kind.ensures t d at all keeps small few;
  values = λ d r o k e. c.values_of_updates_keep_their_kinds.ensures t d r o k e keeps small few;
  conditions = λ d r o all. c.conditions_of_updates_keep_their_kind.ensures t d r o all keeps small few;
  sent = λ d ty k e. c.sent_values_keep_their_kinds.ensures t d ty k e keeps small few;
})
