-- A turn in a cell, from the spelling of its record to its post: what the calls between them ask, and the cell then.
use Rattle.std.proofs.Common.{◌≡◌, ℕ, ◌<◌, Bool, true, false, List, Option, Some, None, refl, sym, ap, ◌∙◌, subst}
use Rattle.std.specs.Prelude.{option_map}
use Rattle.atomic_table.specs.Seated.{TableId}
use Rattle.qc_core.specs.declared.actor.Actor.{Actor}
use Rattle.qc_core.specs.declared.actor.Actor.TheVariants as actors_of
use Rattle.qc_core.specs.Vocabulary.{AsksFew, IsLawfulWithFalls, actor_sent, actor_takes, moved}
use Rattle.qc_decl.specs.Vocabulary.{actors}
use Rattle.qc_decl.specs.declared.declaration.Declaration.{Declaration}
use Rattle.qc_msg.specs.Vocabulary.{Entry, HasRecord, MayEnd, posted_as}
use Rattle.qc_msg.specs.declared.record.Record.{Record}
use Rattle.qc_msg.specs.declared.step.Input.{Input}
use Rattle.qc_msg.specs.declared.step.Step.{Step}
use Rattle.qc_msg.specs.declared.turn.Appended.{Appended}
use Rattle.qc_msg.specs.declared.turn.Appended.TheVariants.{Done, Failed, Stopped}
use Rattle.qc_msg.specs.declared.turn.Turn.{Turn}
use Rattle.qc_pass.specs.declared.token.Pass.{Pass}
use Rattle.qc_pass.specs.Vocabulary.{number, seen}
use Rattle.qc_process.specs.Vocabulary.{Goes, HasFewRecords, IsLegalPending, IsProcess, IsStored, IsUp, MayWrite}
use Rattle.qc_process.specs.Vocabulary.{ProcessView, Spells, StoreView}
use Rattle.qc_record.specs.Vocabulary.{spelled}
use Rattle.qc_script.specs.declared.script.Script.{Script}
use Rattle.qc_fabric.specs.Vocabulary.{Posts, Sees, Takes}
use Rattle.qc_node.specs.Vocabulary.{IsCell, IsRunnable, fits_of}
use Rattle.qc_node.proofs.Kept.{cell_stored}
use Rattle.qc_node.proofs.ServedStores.{few_open}
use Rattle.qc_node.proofs.Served.{few_asked, may_write, posts_go, process_last, short_after, stored_now, stored_then}

-- only a turn with a record ends otherwise than done
ends_so : (w : Option Record) (end : Appended) (spelling : Option (List ℕ)) → spelling ≡ option_map spelled w
    → (spelling ≡ None → end ≡ Done) → MayEnd w end
ends_so w Done spelling is none = tt
ends_so None Failed spelling is none = absurd (let no : Failed ≡ Done = none is in let never : ⊥ = cc in never)
ends_so None Stopped spelling is none = absurd (let no : Stopped ≡ Done = none is in let never : ⊥ = cc in never)
ends_so (Some r) Failed spelling is none = tt
ends_so (Some r) Stopped spelling is none = tt

legal_pending : (w : Option Record) (s : StoreView) → MayWrite w s → IsLegalPending w
legal_pending None s may = tt
legal_pending (Some r) s may = may.0.legal

few_ended : (end : Appended) (after v : Actor) → AsksFew after → (end ≡ Done → v ≡ after)
    → ((end ≡ Done → ⊥) → v ≡ actors_of.Down) → AsksFew v
few_ended Done after v few kept down = subst AsksFew (sym (kept refl)) few
few_ended Failed after v few kept down = subst AsksFew (sym (down (λ is. let no : ⊥ = cc in no))) tt
few_ended Stopped after v few kept down = subst AsksFew (sym (down (λ is. let no : ⊥ = cc in no))) tt

-- the process took its input, and the record of its turn was spelled
pub record IsSpelled (took prepared : ProcessView) (turn : Turn) : Type 0 where
  pub number_is : prepared.number ≡ took.number
  pub actor_is : prepared.actor ≡ took.actor
  pub told : prepared.store.told ≡ took.store.told
  pub fuse : prepared.store.fuse ≡ took.store.fuse
  pub journal : prepared.store.journal ≡ took.store.journal
  pub spelling_is : prepared.store.spelling ≡ option_map spelled turn.write

pub is_spelled : (took prepared : ProcessView) (turn : Turn)
    → prepared ≡ record took { store = record took.store { spelling = option_map spelled turn.write } }
    → IsSpelled took prepared turn
is_spelled took prepared turn is = record {
  number_is = ap (λ (p : ProcessView). p.number) is;
  actor_is = ap (λ (p : ProcessView). p.actor) is;
  told = ap (λ (p : ProcessView). p.store.told) is;
  fuse = ap (λ (p : ProcessView). p.store.fuse) is;
  journal = ap (λ (p : ProcessView). p.store.journal) is;
  spelling_is = ap (λ (p : ProcessView). p.store.spelling) is;
}

module _ (tells : Bool) (z : TableId) (decl : Declaration) (script : Script) (runs : IsRunnable decl script)
    (p q : Pass Step) (g : Input) (b : Bool) (pr : ProcessView) (cell : IsCell tells z decl b pr p)
    (known : IsProcess tells decl (number p) (seen p) pr)
    (took : Takes (IsLawfulWithFalls decl) (fits_of decl) decl script p q g)
    (after : ProcessView) (turn : Turn) (acted : actor_takes decl pr.actor g ≡ moved after.actor turn)
    (number_is : after.number ≡ pr.number) (store_is : after.store ≡ pr.store)
    (writes : HasRecord turn.write → IsUp after.store) where
  may : MayWrite turn.write after.store
  may =
      may_write tells decl script runs.accepted runs.declared p q g cell.is_actor took pr known after.actor turn acted
      after.store store_is writes

  stored_as : (s : StoreView) → s.told ≡ after.store.told → s.fuse ≡ after.store.fuse
      → s.journal ≡ after.store.journal → IsStored tells decl (number p) (seen q) s
  stored_as s told fuse journal =
      stored_then tells decl script runs.accepted runs.declared p q g cell.is_actor took pr known after.actor turn acted
      s
      (told ∙ ap (λ (x : StoreView). x.told) store_is) (fuse ∙ ap (λ (x : StoreView). x.fuse) store_is)
      (journal ∙ ap (λ (x : StoreView). x.journal) store_is)

  -- it is given up before its record was written
  pub cell_unwritten : (new : ProcessView) → new.store.told ≡ after.store.told → new.store.fuse ≡ after.store.fuse
      → new.store.journal ≡ after.store.journal → IsCell tells z decl true new q
  cell_unwritten new told fuse journal =
      cell_stored tells decl p q z b pr cell script g took new (stored_as new.store told fuse journal)

  module _ (prepared : ProcessView) (spelt : IsSpelled after prepared turn) where
    stored : IsStored tells decl (number p) (seen q) prepared.store
    stored = stored_as prepared.store spelt.told spelt.fuse spelt.journal

    pub few : HasFewRecords prepared.store
    few =
        few_open (seen q) prepared.store tells decl (number p)
        (short_after tells decl script runs.accepted runs.declared p q g cell.is_actor took) stored

    module _ (end : Appended) (none : prepared.store.spelling ≡ None → end ≡ Done) (new : ProcessView)
        (done : end ≡ Done → new.actor ≡ prepared.actor) (fallen : (end ≡ Done → ⊥) → new.actor ≡ actors_of.Down) where
      pub ends : MayEnd turn.write end
      ends = ends_so turn.write end prepared.store.spelling spelt.spelling_is none

      pub few_then : AsksFew new.actor
      few_then =
          few_ended end after.actor new.actor
          (few_asked tells decl script runs.accepted runs.declared p q g cell.is_actor took pr known after.actor turn
          acted)
          (λ is. done is ∙ spelt.actor_is) fallen

      module _ (p2 r : Pass Step) (saw : Sees q p2) (first : ℕ)
          (posts : Posts (IsLawfulWithFalls decl) (fits_of decl) decl script p2 r (record turn { append = end }) first)
          (same : new.number ≡ prepared.number)
          (goes : (tells : Bool) (decl : Declaration) (a : ℕ) (h now : List Entry) (turn : Turn) (first : ℕ)
          → Spells turn prepared.store → Goes a h (posted_as end first turn) now
          → IsStored tells decl a h prepared.store → IsStored tells decl a now new.store) where
        stored_last : IsStored tells decl (number p2) (seen r) new.store
        stored_last =
            goes tells decl (number p2) (seen p2) (seen r) (record turn { append = end }) first
            (record { legal = legal_pending turn.write after.store may; spelling_is = spelt.spelling_is })
            (posts_go tells decl script runs.accepted runs.declared p q g cell.is_actor took pr known after.actor turn
            acted
            p2 saw r end first posts)
            (stored_now tells decl script runs.accepted runs.declared p q g cell.is_actor took pr known after.actor turn
            acted p2 saw prepared.store stored)

        number_last : number r ≡ number p
        number_last = posts.pass.number_is ∙ (saw.pass.number_is ∙ took.pass.number_is)

        -- what the cell is, when all was posted
        pub cell_posted : (last : ProcessView) → last ≡ record new { actor = actor_sent new.actor first }
            → IsCell tells z decl false last r
        cell_posted last is = record {
          table_is = posts.pass.table_is ∙ (saw.pass.table_is ∙ (took.pass.table_is ∙ cell.table_is));
          is_actor = subst (λ (n : ℕ). n < actors decl) (sym number_last) cell.is_actor;
          no_room = posts.room_is;
          known =
              subst (λ (x : ProcessView). IsProcess tells decl (number r) (seen r) x)
              (sym (is ∙ ap (λ (n : ℕ). record new { number = n; actor = actor_sent new.actor first })
              (same ∙ (spelt.number_is ∙ number_is))))
              (process_last tells decl script runs.accepted runs.declared p q g cell.is_actor took pr known after.actor
              turn
              acted p2 saw r end first posts new.actor new.store (λ e. done e ∙ spelt.actor_is) fallen stored_last);
        }
