-- Each expression of a component has the kind that its position asks for: those of declarations, equations, and the guards, the
-- updates and the sent values of an edge.
use Rattle.std.proofs.Common.{List, ◌++◌}
use Rattle.std.specs.Prelude.{flat_map}
use Rattle.cif_ast.specs.Tree.{Tree}
use Rattle.cif_system.specs.Words.{Member}
use Rattle.cif_system.proofs.Picks.{append-left, append-right, flat_map-member}
use Rattle.cif_system.proofs.Distinct.{member-flat_map}
use Rattle.cif_source.specs.Source.{UseTree, EdgeTree, EquationTree, LocationTree, DeclTree, Source}
use Rattle.cif_source.specs.Components.{Component}
use Rattle.cif_source.specs.Objects.{components_of, decls_of, locs_of}
use Rattle.cif_source.specs.Kinds.{bool_kind, int_kind, Demand}
use Rattle.cif_source.specs.Constants.{bound_values}
use Rattle.cif_source.specs.Demands.{asked_for, use_demands, edge_received, updates_demands, edge_demands, equation_demands, location_demands, decl_demands, argument_demands, arguments_in, demands}
use Rattle.cif_source.specs.BodyRules.{edges_of}
use Rattle.cif_inst_bodies.proofs.DemandLaws.{demands-met}
use Rattle.cif_inst_laws.specs.Kinds.{AreMet}
use Rattle.cif_inst_laws.proofs.Sound.{IsSound, matched, as-body}

-- ---- parts of what is met

pub met-left : (c : Component) (xs ys : List Demand) → AreMet c (xs ++ ys) → AreMet c xs
met-left c xs ys h d m = h d (append-left d xs ys m)

pub met-right : (c : Component) (xs ys : List Demand) → AreMet c (xs ++ ys) → AreMet c ys
met-right c xs ys h d m = h d (append-right d xs ys m)

pub met-each : {A : Type 0} (c : Component) (f : A → List Demand) (xs : List A) → AreMet c (flat_map f xs) → (x : A) → Member x xs → AreMet c (f x)
met-each c f xs h x m d k = h d (flat_map-member f x xs d m k)

module _ (t : Source) (h : IsSound t) (c : Component) (m : Member c (components_of t)) where
  all-met : AreMet c (demands c)
  all-met = demands-met t (matched t h) c (as-body t h c m)

  pub decl-met : (d : DeclTree) → Member d (decls_of c) → AreMet c (decl_demands c d)
  decl-met =
      met-each c (decl_demands c) (decls_of c)
      (met-right c (flat_map (asked_for c int_kind) (bound_values c)) (flat_map (decl_demands c) (decls_of c))
      (met-left c (flat_map (asked_for c int_kind) (bound_values c) ++ flat_map (decl_demands c) (decls_of c)) (flat_map (argument_demands c) (arguments_in c))
      (met-left c (flat_map (asked_for c int_kind) (bound_values c) ++ flat_map (decl_demands c) (decls_of c) ++ flat_map (argument_demands c) (arguments_in c)) (flat_map (location_demands c) (locs_of c)) all-met)))

  location-met : (l : LocationTree) → Member l (locs_of c) → AreMet c (location_demands c l)
  location-met =
      met-each c (location_demands c) (locs_of c)
      (met-right c (flat_map (asked_for c int_kind) (bound_values c) ++ flat_map (decl_demands c) (decls_of c) ++ flat_map (argument_demands c) (arguments_in c)) (flat_map (location_demands c) (locs_of c)) all-met)

  pub equation-met : (l : LocationTree) → Member l (locs_of c) → (q : EquationTree) → Member q l.equations → AreMet c (equation_demands c q)
  equation-met l k =
      met-each c (equation_demands c) l.equations
      (met-right c (flat_map (asked_for c bool_kind) l.marked) (flat_map (equation_demands c) l.equations)
      (met-left c (flat_map (asked_for c bool_kind) l.marked ++ flat_map (equation_demands c) l.equations) (flat_map (edge_demands c) l.edges) (location-met l k)))

  edge-met : (e : EdgeTree) → Member e (edges_of c) → AreMet c (edge_demands c e)
  edge-met e k =
      let l = member-flat_map (λ (l : LocationTree). l.edges) e (locs_of c) k in
      met-each c (edge_demands c) l.0.edges
      (met-right c (flat_map (asked_for c bool_kind) l.0.marked ++ flat_map (equation_demands c) l.0.equations) (flat_map (edge_demands c) l.0.edges) (location-met l.0 l.1)) e l.2

  pub guards-met : (e : EdgeTree) → Member e (edges_of c) → (g : Tree) → Member g e.guards → AreMet c (asked_for c bool_kind g)
  guards-met e k g i =
      met-each c (asked_for c bool_kind) e.guards
      (met-right c (flat_map (use_demands c) e.uses) (flat_map (asked_for c bool_kind) e.guards)
      (met-left c (flat_map (use_demands c) e.uses ++ flat_map (asked_for c bool_kind) e.guards) (updates_demands c (edge_received c e.uses) e.updates) (edge-met e k))) g i

  pub uses-met : (e : EdgeTree) → Member e (edges_of c) → (u : UseTree) → Member u e.uses → AreMet c (use_demands c u)
  uses-met e k u i =
      met-each c (use_demands c) e.uses
      (met-left c (flat_map (use_demands c) e.uses) (flat_map (asked_for c bool_kind) e.guards)
      (met-left c (flat_map (use_demands c) e.uses ++ flat_map (asked_for c bool_kind) e.guards) (updates_demands c (edge_received c e.uses) e.updates) (edge-met e k))) u i

  pub updates-met : (e : EdgeTree) → Member e (edges_of c) → AreMet c (updates_demands c (edge_received c e.uses) e.updates)
  updates-met e k = met-right c (flat_map (use_demands c) e.uses ++ flat_map (asked_for c bool_kind) e.guards) (updates_demands c (edge_received c e.uses) e.updates) (edge-met e k)
