-- What choices name, in the order of their parts.
use Rattle.std.specs.Prelude.{List, [], ◌++◌, Option, None, Some}
use Rattle.cif_net_expr.specs.Tree.{NetExpr, NetUpdate, net_set, net_choose, NetUpdates, no_net_updates, net_updates, NetUpdateBranches, no_net_update_branches, net_update_branches}
use Rattle.cif_net_model.specs.Listing.{NetChoice}
use Rattle.cif_net_model.specs.Reads.{Read, a_var, an_input, an_alg, a_place, the_received, names_in}
use Rattle.cif_sim.specs.declared.names.Name.{Name}
use Rattle.cif_sim.specs.declared.names.Name.TheVariants as name

abbrev pub name_read : Name → Read
name_read (name.Var k) = a_var k
name_read (name.Input k) = an_input k
name_read (name.Alg k) = an_alg k
name_read (name.Place k) = a_place k
name_read name.Received = the_received

-- what the conditions and right sides of updates name
abbrev mutual
  pub updates_names : NetUpdates → List Read
  updates_names no_net_updates = []
  updates_names (net_updates u us) = update_names u ++ updates_names us

  pub update_names : NetUpdate → List Read
  update_names (net_set v e) = names_in e
  update_names (net_choose bs us) = branches_names bs ++ updates_names us

  pub branches_names : NetUpdateBranches → List Read
  branches_names no_net_update_branches = []
  branches_names (net_update_branches c us bs) = names_in c ++ (updates_names us ++ branches_names bs)

abbrev pub sent_names : Option NetExpr → List Read
sent_names None = []
sent_names (Some e) = names_in e

abbrev pub choice_reads : NetChoice → List Read
choice_reads c = names_in c.test ++ (sent_names c.sent ++ updates_names c.writes)
