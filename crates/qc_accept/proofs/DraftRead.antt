-- Reading the fields of a declaration, one key after another.
use Rattle.std.proofs.Common.{◌≡◌, ◌≢◌, ℕ, ◌≤◌, List, [], length, map, Result, Ok, Err, ap, sym, subst, arith}
use Rattle.std.specs.Prelude.{codes}
use Rattle.toml.specs.Data.{Members}
use Rattle.qc_cert.specs.declared.triple.Triple.{Triple}
use Rattle.qc_decl.specs.declared.declaration.KindNames.{KindNames}
use Rattle.qc_plan.specs.declared.plan.Plan.{Plan}
use Rattle.qc_table.specs.declared.kind.Kind.{Kind}
use Rattle.qc_decl.specs.Vocabulary.{most_clients, most_sites, most_types}
use Rattle.qc_accept.specs.declared.fault.DeclFault.{DeclFault}
use Rattle.qc_accept.specs.declared.fault.DeclFault.TheVariants.{OutOfMemory}
use Rattle.qc_accept.specs.Vocabulary.{Answer, DraftOf, IsAnswer, IsFit, ObjectsOf, TypeOf, TypesOf, all_names, draft}
use Rattle.qc_accept.specs.Vocabulary.{draft_of, keys, lists_of, no_others, number, objects_of, plans_of, types_of}
use Rattle.qc_list.specs.Vocabulary.{◌>>=◌}
use Rattle.qc_accept.proofs.Accepting.{store_fits}
use Rattle.qc_accept.proofs.Drafted.{objects_kept}
use Rattle.qc_accept.proofs.Kept.{AreTypesKept, types_kept}
use Rattle.qc_accept.proofs.Told.{then_answers, then_ok, then_err}

-- the types have few names, one for each
pub few_names : (path : List ℕ) (table : Members) (types : TypesOf) → types_of path table ≡ Ok types
    → length types.names ≤ 256
few_names path table types is =
    let kept : AreTypesKept types = types_kept path table types is in
    let few : length types.list ≤ most_types = kept.few in
    let names : length types.names ≡ length types.list = kept.names in
    omega arith

-- what epochs stand on fits
pub fits : (path : List ℕ) (table : Members) (sites : ℕ) (types : TypesOf) (objects : ObjectsOf) → sites ≤ most_sites
    → types_of path table ≡ Ok types → objects_of path table types ≡ Ok objects
    → IsFit (record { sites = sites; types = types; objects = objects })
fits path table sites types objects few b c =
    store_fits sites types objects few (types_kept path table types b) (objects_kept path table types objects c).few

-- the fields, as those of a table under a path
abbrev pub draft_at : List ℕ → Members → Answer DraftOf
draft_at path table =
    number path table (codes "sites") 1 most_sites >>= (λ sites.
    number path table (codes "clients") 1 most_clients >>= (λ clients.
    lists_of path table sites clients))

-- a document's path is none
at_root : {A : Type 0} (view : A → DraftOf) (path : List ℕ) (t table : Members) (result : Result A DeclFault)
    → path ≡ [] → t ≡ table
    → IsAnswer view result (draft_at path t) → IsAnswer view result (draft_of table)
at_root view path t table result none same is =
    subst (λ (m : Members). IsAnswer view result (draft_at [] m)) same
    (subst (λ (p : List ℕ). IsAnswer view result (draft_at p t)) none is)

-- the counts, and what follows them
module _ {A : Type 0} (view : A → DraftOf) (path : List ℕ) (t table : Members) (none : path ≡ [])
    (same : t ≡ table) where
  pub no_sites : (fault : DeclFault) → (fault ≢ OutOfMemory → number path t (codes "sites") 1 most_sites ≡ Err fault)
      → fault ≢ OutOfMemory → draft_of table ≡ Err fault
  no_sites fault is =
      at_root view path t table (Err fault) none same (then_err (number path t (codes "sites") 1 most_sites) _ fault is)

  pub no_clients : (fault : DeclFault) (sites : ℕ) → number path t (codes "sites") 1 most_sites ≡ Ok sites
      → (fault ≢ OutOfMemory → number path t (codes "clients") 1 most_clients ≡ Err fault) → fault ≢ OutOfMemory
      → draft_of table ≡ Err fault
  no_clients fault sites a is =
      at_root view path t table (Err fault) none same (λ apart.
      then_ok (number path t (codes "sites") 1 most_sites) _ sites _ a
      (then_err (number path t (codes "clients") 1 most_clients) _ fault is apart))

  pub lists_read : (result : Result A DeclFault) (sites clients : ℕ)
      → number path t (codes "sites") 1 most_sites ≡ Ok sites
      → number path t (codes "clients") 1 most_clients ≡ Ok clients
      → IsAnswer view result (lists_of path t sites clients) → IsAnswer view result (draft_of table)
  lists_read result sites clients a b rest =
      at_root view path t table result none same
      (then_answers view result (number path t (codes "sites") 1 most_sites) _ sites a
      (then_answers view result (number path t (codes "clients") 1 most_clients) _ clients b rest))

-- each list in its turn
module _ (path : List ℕ) (table : Members) (fault : DeclFault) (apart : fault ≢ OutOfMemory) (sites clients : ℕ) where
  pub no_types : (fault ≢ OutOfMemory → types_of path table ≡ Err fault) → lists_of path table sites clients ≡ Err fault
  no_types is = then_err (types_of path table) _ fault is apart

  pub no_objects : (types : TypesOf) → types_of path table ≡ Ok types
      → (fault ≢ OutOfMemory → objects_of path table types ≡ Err fault)
      → lists_of path table sites clients ≡ Err fault
  no_objects types c is = then_ok (types_of path table) _ types _ c
      (then_err (objects_of path table types) _ fault is apart)

  pub no_plans : (types : TypesOf) (objects : ObjectsOf) → types_of path table ≡ Ok types
      → objects_of path table types ≡ Ok objects
      → (fault ≢ OutOfMemory → plans_of path table (record { sites = sites; types = types; objects = objects })
      ≡ Err fault)
      → lists_of path table sites clients ≡ Err fault
  no_plans types objects c d is =
      then_ok (types_of path table) _ types _ c
      (then_ok (objects_of path table types) _ objects _ d
      (then_err (plans_of path table (record { sites = sites; types = types; objects = objects })) _ fault is apart))

  pub other_keys : (types : TypesOf) (objects : ObjectsOf) (plans : List Plan) → types_of path table ≡ Ok types
      → objects_of path table types ≡ Ok objects
      → plans_of path table (record { sites = sites; types = types; objects = objects }) ≡ Ok plans
      → (fault ≢ OutOfMemory → no_others path table keys ≡ Err fault) → lists_of path table sites clients ≡ Err fault
  other_keys types objects plans c d e is =
      then_ok (types_of path table) _ types _ c
      (then_ok (objects_of path table types) _ objects _ d
      (then_ok (plans_of path table (record { sites = sites; types = types; objects = objects })) _ plans _ e
      (then_err (no_others path table keys) _ fault is apart)))

pub draft_read : (path : List ℕ) (table : Members) (sites clients : ℕ) (types : TypesOf) (objects : ObjectsOf)
    (plans : List Plan) (d : DraftOf)
    → types_of path table ≡ Ok types → objects_of path table types ≡ Ok objects
    → plans_of path table (record { sites = sites; types = types; objects = objects }) ≡ Ok plans
    → no_others path table keys ≡ Ok tt → d ≡ draft sites clients types objects plans
    → lists_of path table sites clients ≡ Ok d
draft_read path table sites clients types objects plans d c e f g is =
    then_ok (types_of path table) _ types _ c
    (then_ok (objects_of path table types) _ objects _ e
    (then_ok (plans_of path table (record { sites = sites; types = types; objects = objects })) _ plans _ f
    (then_ok (no_others path table keys) _ tt _ g
    (ap (λ (x : DraftOf). let answer : Answer DraftOf = Ok x in answer) (sym is)))))

-- the draft is made of what was read
pub draft_same : (sites clients : ℕ) (types : TypesOf) (objects : ObjectsOf) (plans : List Plan) (kinds : List Kind)
    (kind_names : List KindNames)
    (triples : List (List Triple)) (object_names : List (List ℕ)) → kinds ≡ map (λ (t : TypeOf). t.kind) types.list
    → kind_names ≡ all_names types.names types.list
    → triples ≡ map (λ (t : TypeOf). t.triples) types.list → object_names ≡ objects.names
    → (let d : DraftOf = record {
      decl = record {
        sites = sites;
        clients = clients;
        kinds = kinds;
        objects = objects.kinds;
        plans = plans;
        kind_names = kind_names;
        object_names = object_names;
      };
      triples = triples;
    } in d)
    ≡ draft sites clients types objects plans
draft_same sites clients types objects plans kinds kind_names triples object_names a b c e = λ j. record {
  decl = record {
    sites = sites;
    clients = clients;
    kinds = a j;
    objects = objects.kinds;
    plans = plans;
    kind_names = b j;
    object_names = e j;
  };
  triples = c j;
}
