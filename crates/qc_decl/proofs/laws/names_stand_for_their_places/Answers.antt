use Rattle.qc_decl.proofs.AcceptedNames.{invs_stand, object_names_stand, resps_stand, states_stand, type_names_stand}
use Rattle.qc_decl.proofs.laws.names_stand_for_their_places.Goals as goal

pub returns : goal.returns
returns c = record {
  types = type_names_stand;
  objects = object_names_stand;
  states = states_stand;
  invocations = invs_stand;
  responses = resps_stand;
}
