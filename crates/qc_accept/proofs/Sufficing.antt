-- A declaration whose certificates are inductive and whose plans are admitted has no fault behind its fields.
use Rattle.std.proofs.Common.{◌≡◌, ℕ, suc, List, [], ◌∷◌, Option, Some, None, Ok, Err, refl, ap, ◌∙◌}
use Rattle.std.specs.Prelude.{slice_get}
use Rattle.std.specs.Option.{option_map_or}
use Rattle.toml.specs.Data.{Members}
use Rattle.qc_cert.proofs.Faultless.{inductive_lists_have_no_fault}
use Rattle.qc_cert.specs.Faults as cert
use Rattle.qc_cert.specs.declared.fault.CertFault.{CertFault}
use Rattle.qc_cert.specs.declared.triple.Triple.{Triple}
use Rattle.qc_plan.proofs.Faultless as plan_proofs
use Rattle.qc_plan.specs.Faults as plan
use Rattle.qc_plan.specs.declared.fault.PlanFault.{PlanFault}
use Rattle.qc_plan.specs.declared.plan.Plan.{Plan}
use Rattle.qc_table.specs.declared.kind.Kind.{Kind}
use Rattle.qc_decl.specs.declared.declaration.Declaration.{Declaration}
use Rattle.qc_decl.specs.declared.declaration.KindNames.{KindNames}
use Rattle.qc_accept.specs.declared.fault.DeclFault.TheVariants as decl
use Rattle.qc_accept.specs.Vocabulary.{Answer, AreAdmitted, AreInductive, DraftOf, accepted, admitted, all_admitted}
use Rattle.qc_accept.specs.Vocabulary.{all_certified, cert_names, certified, declared, document_of, draft_of}
use Rattle.qc_accept.specs.Vocabulary.{plan_names}
use Rattle.qc_list.specs.Vocabulary.{◌>>=◌}

certified_all : (place : ℕ) (names : List KindNames) (kinds : List Kind) (lists : List (List Triple))
    → ((k : ℕ) (kind : Kind) (list : List Triple) → slice_get kinds k ≡ Some kind → slice_get lists k ≡ Some list
    → cert.fault_of kind list ≡ None)
    → all_certified place names kinds lists ≡ Ok tt
certified_all place [] kinds lists none = refl
certified_all place (n ∷ ns) [] lists none = refl
certified_all place (n ∷ ns) (x ∷ xs) [] none = refl
certified_all place (n ∷ ns) (x ∷ xs) (ts ∷ lists) none =
    let here : certified place n x ts ≡ Ok tt =
    ap (λ (o : Option CertFault). option_map_or
    (λ fault. (let answer : Answer (Unit {0}) = Err (decl.Cert place fault (cert_names n x fault)) in answer)) o
    (Ok tt)) (none 0 x ts refl refl) in
    ap (λ (a : Answer (Unit {0})). a >>= (λ _. all_certified (suc place) ns xs lists)) here
    ∙ certified_all (suc place) ns xs lists (λ k kind list at of. none (suc k) kind list at of)

admitted_all : (d : Declaration) (epoch : ℕ) (plans : List Plan)
    → ((k : ℕ) (p : Plan) → slice_get plans k ≡ Some p → plan.fault_of p d.kinds d.objects ≡ None)
    → all_admitted d epoch plans ≡ Ok tt
admitted_all d epoch [] none = refl
admitted_all d epoch (p ∷ ps) none =
    let here : admitted d epoch p ≡ Ok tt =
    ap (λ (o : Option PlanFault). option_map_or
    (λ fault. (let answer : Answer (Unit {0}) = Err (decl.Plan epoch fault (plan_names d fault)) in answer)) o
    (Ok tt)) (none 0 p refl) in
    ap (λ (a : Answer (Unit {0})). a >>= (λ _. all_admitted d (suc epoch) ps)) here
    ∙ admitted_all d (suc epoch) ps (λ k q at. none (suc k) q at)

pub sufficient_declarations_are_accepted : (bytes : List ℕ) (table : Members) (d : DraftOf)
    → document_of bytes ≡ Ok table → draft_of table ≡ Ok d
    → AreInductive d → AreAdmitted d
    → accepted bytes ≡ Ok d.decl
sufficient_declarations_are_accepted bytes table d document read inductive plans =
    let types : all_certified 0 d.decl.kind_names d.decl.kinds d.triples ≡ Ok tt =
    certified_all 0 d.decl.kind_names d.decl.kinds d.triples
    (λ k kind list at of. inductive_lists_have_no_fault kind list (inductive k kind list at of)) in
    let epochs : all_admitted d.decl 1 d.decl.plans ≡ Ok tt =
    admitted_all d.decl 1 d.decl.plans (λ k p at. plan_proofs.faultless p d.decl.kinds d.decl.objects (plans k p at)) in
    ap (λ (a : Answer Members). a >>= declared) document
    ∙ ap (λ (a : Answer DraftOf). a >>= (λ x. all_certified 0 x.decl.kind_names x.decl.kinds x.triples >>=
    (λ _. all_admitted x.decl 1 x.decl.plans >>= (λ _. Ok x.decl)))) read
    ∙ ap (λ (a : Answer (Unit {0})). a >>= (λ _. all_admitted d.decl 1 d.decl.plans >>= (λ _. Ok d.decl))) types
    ∙ ap (λ (a : Answer (Unit {0})). a >>= (λ _. Ok d.decl)) epochs
