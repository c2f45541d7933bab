-- What is known in a cell, while others act, and once its actor took an input or its process was given up.
use Rattle.std.proofs.Common.{◌≡◌, ℕ, ◌<◌, Bool, true, false, [], refl, sym, ap, ◌∙◌, subst, inl, inr}
use Rattle.atomic_table.specs.Seated.{TableId}
use Rattle.qc_core.specs.Vocabulary.{IsLawfulWithFalls}
use Rattle.qc_decl.specs.Vocabulary.{actors}
use Rattle.qc_decl.specs.declared.declaration.Declaration.{Declaration}
use Rattle.qc_msg.specs.Vocabulary.{deeds}
use Rattle.qc_msg.specs.declared.step.Input.{Input}
use Rattle.qc_msg.specs.declared.step.Step.{Step}
use Rattle.qc_pass.specs.declared.token.Pass.{Pass}
use Rattle.qc_pass.specs.Vocabulary.{number, room, seen}
use Rattle.qc_process.specs.Vocabulary.{IsProcess, IsStored, ProcessView, StoreView}
use Rattle.qc_process.proofs.GivenUp.{on_disk_past_input, on_disk_past_others, stored_past_input, stored_past_others}
use Rattle.qc_script.specs.declared.script.Script.{Script}
use Rattle.qc_fabric.specs.Vocabulary.{HasNone, Sees, Takes, Waits}
use Rattle.qc_node.specs.Vocabulary.{IsCell, IsIdle, IsKnown, IsLeft, fits_of}
use Rattle.qc_node.proofs.Rises.{process_over_others}
use Rattle.qc_node.proofs.ServedStores.{saw_goes, took_goes}

-- a store that was given up, over others, and over an input

module _ (tells : Bool) (decl : Declaration) (p q : Pass Step) where
  left_over_others : (s : StoreView) → Sees p q → IsLeft tells decl (number p) (seen p) s
      → IsLeft tells decl (number p) (seen q) s
  left_over_others s saw (inl is) =
      inl (stored_past_others tells decl (number p) (seen p) (seen q) s (saw_goes p q saw) is)
  left_over_others s saw (inr both) =
      inr (
        both.0,
        on_disk_past_others tells decl (number p) (seen p) (seen q) s.told s.fuse.unarmed
            (saw_goes p q saw) both.1,
      )

  left_over_input : (script : Script) (g : Input) (s : StoreView)
      → Takes (IsLawfulWithFalls decl) (fits_of decl) decl script p q g
      → IsLeft tells decl (number p) (seen p) s → IsLeft tells decl (number p) (seen q) s
  left_over_input script g s took (inl is) =
      inl (stored_past_input tells decl (number p) (seen p) (seen q) s g (took_goes decl script p q g took) is)
  left_over_input script g s took (inr both) =
      inr (
        both.0,
        on_disk_past_input tells decl (number p) (seen p) (seen q) s.told s.fuse.unarmed g
            (took_goes decl script p q g took) both.1,
      )

  known_over_others : (b : Bool) (pr : ProcessView) → Sees p q → IsKnown tells decl (number p) (seen p) b pr
      → IsKnown tells decl (number q) (seen q) b pr
  known_over_others false pr saw is = process_over_others tells decl p q pr saw is
  known_over_others true pr saw is =
      subst (λ (n : ℕ). IsLeft tells decl n (seen q) pr.store) (sym saw.pass.number_is)
      (left_over_others pr.store saw is)

  known_left : (b : Bool) (pr : ProcessView) → IsKnown tells decl (number p) (seen p) b pr
      → IsLeft tells decl (number p) (seen p) pr.store
  known_left false pr is = inl is.stored
  known_left true pr is = is

  module _ (z : TableId) (b : Bool) (pr : ProcessView) (cell : IsCell tells z decl b pr p) where
    -- the cell saw more
    pub cell_over_others : Sees p q → room q ≡ 0 → IsCell tells z decl b pr q
    cell_over_others saw none = record {
      table_is = saw.pass.table_is ∙ cell.table_is;
      is_actor = subst (λ (n : ℕ). n < actors decl) (sym saw.pass.number_is) cell.is_actor;
      no_room = none;
      known = known_over_others b pr saw cell.known;
    }

    module _ (script : Script) (g : Input) (took : Takes (IsLawfulWithFalls decl) (fits_of decl) decl script p q g)
      where
        -- its actor took an input, and is given up
        pub cell_over_input : (new : ProcessView) → new.store ≡ pr.store → IsCell tells z decl true new q
        cell_over_input new same = record {
          table_is = took.pass.table_is ∙ cell.table_is;
          is_actor = subst (λ (n : ℕ). n < actors decl) (sym took.pass.number_is) cell.is_actor;
          no_room = took.room_is ∙ cell.no_room;
          known =
              subst (λ (n : ℕ). IsLeft tells decl n (seen q) new.store) (sym took.pass.number_is)
              (subst (λ (s : StoreView). IsLeft tells decl (number p) (seen q) s) (sym same)
              (left_over_input script g pr.store took (known_left b pr cell.known)));
        }

        -- likewise, with a store that stands as the history tells
        pub cell_stored : (new : ProcessView) → IsStored tells decl (number p) (seen q) new.store
            → IsCell tells z decl true new q
        cell_stored new is = record {
          table_is = took.pass.table_is ∙ cell.table_is;
          is_actor = subst (λ (n : ℕ). n < actors decl) (sym took.pass.number_is) cell.is_actor;
          no_room = took.room_is ∙ cell.no_room;
          known =
              subst (λ (n : ℕ). IsLeft tells decl n (seen q) new.store) (sym took.pass.number_is)
              (let at : IsLeft tells decl (number p) (seen q) new.store = inl is in at);
        }

-- nothing was ready

pub idle : (decl : Declaration) (script : Script) (p q : Pass Step) (b : Bool) (pr : ProcessView)
    → Waits (IsLawfulWithFalls decl) (fits_of decl) decl script p q
    → IsIdle decl script (record { number = number p; seen = seen p; given_up = b; process = pr })
    (record { number = number q; seen = seen q; given_up = b; process = pr })
idle decl script p q b pr waits = record {
  begins = (waits.saw.others, sym waits.saw.seen_is);
  does = ap (λ (n : ℕ). deeds n [] (seen q)) waits.saw.pass.number_is ∙ waits.saw.does;
  process_is = refl;
  given_up_is = refl;
  run = waits.run;
  why = subst (λ (n : ℕ). HasNone decl script waits.run.0 n (seen q)) (sym waits.saw.pass.number_is) waits.why;
}

-- the process of a cell, which was not given up
pub process_known : (tells : Bool) (decl : Declaration) (p : Pass Step) (pr : ProcessView) (given_up : Bool)
    → given_up ≡ false → IsKnown tells decl (number p) (seen p) given_up pr
    → IsProcess tells decl (number p) (seen p) pr
process_known tells decl p pr given_up kept known =
    subst (λ (b : Bool). IsKnown tells decl (number p) (seen p) b pr) kept known
