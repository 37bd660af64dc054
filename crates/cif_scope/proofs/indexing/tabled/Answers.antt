use Rattle.std.proofs.Common.{◌<◌, ◌^◌, length, List, subst, sym, arith}
use Rattle.cif_source.specs.Source.{source_of}
use Rattle.cif_source.specs.Scoping.{DuplicateDue}
use Rattle.cif_scope.specs.declared.scope.Scope.{Scope}
use Rattle.cif_scope.specs.Tables.{IsTable}
use Rattle.cif_scope.specs.Indexes.{AreIndexed, StandsTwiceIn, OnlyDuplicate}
use Rattle.cif_scope.proofs.TableLaws.{scopes-table}
use Rattle.cif_scope.proofs.IndexLaws.{few-is, twice-due, only-map}
use Rattle.cif_scope.proofs.indexing.tabled.Goals as goal

pub invariant_of-result : goal.invariant_of-result
invariant_of-result c =
    let ix : AreIndexed c.in_ok-scopes.scopes c.in-Ok.names = subst (λ (ss : List Scope). AreIndexed ss c.in-Ok.names) c.as_slice.ensures c.in-Ok.ensures.index in
    let few : length c.in_ok-scopes.scopes < 2 ^ 32 = omega (arith, c.in_ok-number.ensures.few, c.len.ensures) in
    record { few = few-is c.in_ok-scopes.scopes c.in-Ok.names few ix }

pub returns-in-Ok-clause-table : goal.returns-in-Ok-clause-table
returns-in-Ok-clause-table c =
    let ix : AreIndexed c.in_ok-scopes.scopes c.in-Ok.names = subst (λ (ss : List Scope). AreIndexed ss c.in-Ok.names) c.as_slice.ensures c.in-Ok.ensures.index in
    record {
      table = subst (λ (ss : List Scope). IsTable (source_of c.args.spec.now) ss) (sym c.in_ok-scopes.ensures) (scopes-table (source_of c.args.spec.now));
      indexed = record { names = ix.names; distinct = ix.distinct };
    }

pub returns-in-Err-clause-twice : goal.returns-in-Err-clause-twice
returns-in-Err-clause-twice c =
    let table : IsTable (source_of c.args.spec.now) c.in_ok-scopes.scopes = subst (λ (ss : List Scope). IsTable (source_of c.args.spec.now) ss) (sym c.in_ok-scopes.ensures) (scopes-table (source_of c.args.spec.now)) in
    only-map (StandsTwiceIn c.in_ok-scopes.scopes) (DuplicateDue (source_of c.args.spec.now)) c.in-Err.error (twice-due (source_of c.args.spec.now) c.in_ok-scopes.scopes table)
    (subst (λ (ss : List Scope). OnlyDuplicate (StandsTwiceIn ss) c.in-Err.error) c.as_slice.ensures c.in-Err.ensures.twice)
