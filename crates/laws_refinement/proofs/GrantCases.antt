-- A Read or an Append that a site looks at: a grant of the machine, or none where it clashes.
use Rattle.std.proofs.Common.{◌≡◌, ◌≢◌, ◌≤◌, ℕ, ◌==◌, true, false, IsTrue, ◌⊎◌, inl, inr, List, [], ◌∷◌, ◌++◌, Some}
use Rattle.std.proofs.Common.{None, refl, sym, ap, ◌∙◌, subst, eq-eqb, eqb-true, ◌<◌, ◌&&◌, nat_le, Bool, length}
use Rattle.std.proofs.Common.{if◌then◌else◌, arith}
use Rattle.qc_stamp.specs.declared.stamp.TxId.{TxId}
use Rattle.qc_stamp.specs.Vocabulary.{same_tx}
use Rattle.qc_list.specs.Vocabulary.{In}
use Rattle.qc_list.proofs.Members.{In-filter, In-first, In-passes, In-second, In-unfiltered, In-map}
use Rattle.qc_entry.specs.declared.line.Line.{Line}
use Rattle.qc_entry.specs.declared.line.OwnLine.{OwnLine}
use Rattle.qc_entry.specs.declared.line.ReadLock.{ReadLock}
use Rattle.qc_entry.specs.Vocabulary.{IsAscending, log_of, no_mark, of_object, told}
use Rattle.qc_entry.proofs.Logs.{ascending-log, in_log, of_log}
use Rattle.qc_decl.specs.declared.declaration.Declaration.{Declaration}
use Rattle.qc_decl.specs.Vocabulary.{IsAccepted, is_site}
use Rattle.qc_table.specs.Vocabulary.{depends}
use Rattle.qc_lock.specs.declared.clash.Clash.{Clash}
use Rattle.qc_lock.specs.Vocabulary.{append_clash, held_of, read_clash, with_held}
use Rattle.qc_msg.specs.declared.message.Want.{Want}
use Rattle.qc_msg.specs.declared.message.Want.TheVariants.{Read, Append, Prepare}
use Rattle.theory_onecopy.specs.Vocabulary.{depends_at}
use Rattle.theory_onecopy.proofs.Lists.{Mapped, map_in}
use Rattle.theory_machine.specs.Vocabulary.{Act, Conflict, Deed, Grant, Grants, IsRun, Item, Lock, NotBegun, Own, Site}
use Rattle.theory_machine.specs.Vocabulary.{each_held, items_of, site_after, state}
use Rattle.theory_machine.proofs.Holdings.{held_lines_are_one_an_operation}
use Rattle.theory_machine.proofs.Names.{put_here}
use Rattle.theory_machine.proofs.SiteLists.{items_of-append, items_of-each_held}
use Rattle.qc_site.specs.Vocabulary.{HasArrived, arrived_of, grant_told}
use Rattle.qc_site.specs.Vocabulary.{SiteMove, appends, clashing, grants, known, moved, reads, relation_at}
use Rattle.qc_site.proofs.RequestCases.{append_cases, read_cases}
use Rattle.laws_refinement.specs.Vocabulary.{Continues, IsHeld, IsMessage, IsWanted, Mirrors, Net, SiteMirrors}
use Rattle.laws_refinement.specs.Vocabulary.{after_site, own_item, own_items}
use Rattle.qc_msg.specs.declared.message.Message.TheVariants as messages
use Rattle.qc_msg.specs.declared.payload.ReadRequest.{ReadRequest}
use Rattle.qc_msg.specs.Vocabulary.{append_grant, first_read}
use Rattle.laws_refinement.proofs.Held.{append_holder, append_is_free, given_back, given_held, given_keeps}
use Rattle.laws_refinement.proofs.Held.{lock_given_here, own_given_here, read_holder, read_is_free}
use Rattle.qc_site.proofs.KnownLines.{learned_ascends, learned_from, learned_in}
use Rattle.laws_refinement.proofs.Machine.{site_more}
use Rattle.laws_refinement.proofs.SiteGrants.{grants_it, stands}
use Rattle.laws_refinement.proofs.SiteSteps.{by_relation, clash_turn, grant_allowed, grant_of, grants_more}

object_in : (l : Line) (xs : List Line) (object : ℕ) → In l (of_object xs object) → In l xs × (l.object ≡ object)
object_in l xs object h = (
  In-unfiltered (λ (x : Line). x.object == object) l xs h,
  eqb-true l.object object (In-passes (λ (x : Line). x.object == object) l xs h),
)

in_object : (l : Line) (xs : List Line) (object : ℕ) → In l xs → l.object ≡ object → In l (of_object xs object)
in_object l xs object h same = In-filter (λ (x : Line). x.object == object) l xs h (eq-eqb l.object object same)

abbrev object_wanted : Want → ℕ
object_wanted (Read read) = read.object
object_wanted (Append object view own) = object
object_wanted Prepare = 0

module _ (decl : Declaration) (accepted : IsAccepted decl) (acts : List Act) (net : Net) (a : ℕ) (run : IsRun decl acts)
    (m : Mirrors decl (state acts) net) (site : is_site decl a ≡ true) (up : net.up a ≡ true) where
  -- a Read

  pub read_case : HasArrived (net.sites a) → (clock from number : ℕ) (tx : TxId) (epoch named : ℕ) (r : ReadRequest)
      → r.mark ≡ no_mark
      → (net.sites a).epoch ≡ (state acts).epoch tx → (net.sites a).closed_for ≡ None
      → ((named ≡ 0) ⊎ (named ≡ (net.sites a).life)) → (net.sites a).clock ≤ clock
      → IsMessage net.mail number a (messages.Request tx epoch named (Read r))
      → (state acts).status tx ≢ NotBegun
      → Continues decl acts (after_site net a (grants decl (record (net.sites a) { clock = clock }) from number tx
      (Read r)))
  read_case has clock from number tx epoch named r unmarked current unshut lived more request begun =
      read_cases (λ (move : SiteMove). Continues decl acts (after_site net a move)) decl
      (record (net.sites a) { clock = clock }) from number tx r granted clashes
    where
      lock : ReadLock
      lock = record { object = r.object; inv = r.inv }

      ms : SiteMirrors decl (net.sites a) ((state acts).deeds a) ((state acts).life a)
      ms = m.sites a site up

      free_of : (t : TxId) (x y : Item)
          → read_clash (relation_at decl r.object) (net.sites a).held tx r.object r.inv ≡ None
          → In x (Lock (record { object = r.object; inv = r.inv }) ∷ []) → IsHeld (held_of (net.sites a).held t) y
          → same_tx t tx ≡ false → Conflict decl x y → ⊥
      free_of t x y free (inr never) held other conflict = never
      free_of t x y free (inl same) held other conflict =
          by y held (subst (λ (z : Item). Conflict decl z y) same conflict)
        where
          by : (z : Item) → IsHeld (held_of (net.sites a).held t) z
              → Conflict decl (Lock (record { object = r.object; inv = r.inv })) z → ⊥
          by (Lock l) h never = never
          by (Own o) h c =
              let no : depends (relation_at decl r.object) r.inv o.event ≡ false =
              read_is_free (relation_at decl r.object) (net.sites a).held tx t r.object r.inv o free other h (sym c.0)
              in
              let yes : depends (relation_at decl r.object) r.inv o.event ≡ true =
              by_relation decl r.object r.inv o.event (subst (λ (k : ℕ). IsTrue (depends_at decl k r.inv o.event))
              (sym c.0) c.1) in
              let never : ⊥ = cc in never

      new : (x : Item) → In x (Lock lock ∷ []) → IsHeld (held_of (with_held (net.sites a).held tx (lock ∷ []) []) tx) x
      new x (inr never) = absurd never
      new x (inl same) = subst (λ (y : Item). IsHeld (held_of (with_held (net.sites a).held tx (lock ∷ []) []) tx) y)
          (sym same) (lock_given_here (net.sites a).held tx lock)

      object_is : (o i : ℕ) → Read r ≡ Read (first_read o i) → r.object ≡ o
      object_is o i same = ap object_wanted same

      granted : read_clash (relation_at decl r.object) (net.sites a).held tx r.object r.inv ≡ None
          → Continues decl acts (after_site net a (reads
          (record (net.sites a) { clock = clock }) from number tx r))
      granted free =
          grants_it decl acts net a run m site up clock from number tx epoch named (Read r) tt
          (grant_told (record (net.sites a) { clock = clock }) r) refl refl
          (reads (record (net.sites a) { clock = clock }) from number tx r).site
          (record {
            began = (m.alike a site up).began;
            recorded = (m.alike a site up).recorded;
            promises = (m.alike a site up).promises;
          }) (
            grant_allowed decl acts net a clock tx (Lock lock ∷ []) [] run m site up current unshut more
                (λ t x y among held other conflict. free_of t x y free among held other conflict)
                (inl (lock, refl, refl)),
            run,
          ) begun request lived
          (grants_more decl ((state acts).life a) (net.sites a)
          (reads (record (net.sites a) { clock = clock }) from number tx r).site ((state acts).deeds a) tx
          (Lock lock ∷ []) [] ms (record { life = refl; epoch = refl; closed_for = refl }) more
          (λ t x among. given_keeps (net.sites a).held tx t (lock ∷ []) [] x (λ o l is same never. absurd never)
          (ms.held t x among)) new
          (λ t o h. elim (given_back (net.sites a).held tx t (lock ∷ []) [] o h)
          [ inl old ↦ inl old | inr never ↦ absurd never.1 ])
          (λ l never. absurd never) (λ l never. absurd never) (λ l h. h) (λ l h. inl h) ms.sorted refl)
          (λ t held. given_held (λ (u : TxId). (state acts).status u ≢ NotBegun) (net.sites a).held tx (lock ∷ []) []
          (λ u h. m.holders a u site up h) begun t held)
          (subst (λ (ls : List Line). IsAscending ls) (sym whole) (ascending-log (arrived_of (net.sites a) r.object)))
          (λ l among. ms.logged l (told_known l among).0)
          (λ o i same l among. (told_known l among).1 ∙ object_is o i same)
          (λ o i same l among on. subst (λ (ls : List Line). In l ls) (sym whole)
          (in_log l (arrived_of (net.sites a) r.object)
          (in_object l (net.sites a).arrived r.object (has.all l (ms.log l among)) (on ∙ sym (object_is o i same)))))
        where
          -- a Read without a mark is told all lines of the object
          whole : (grant_told (record (net.sites a) { clock = clock }) r).log
              ≡ log_of (arrived_of (net.sites a) r.object)
          whole =
              ap (told (net.sites a).life (net.sites a).epoch (arrived_of (net.sites a) r.object)) unmarked
              ∙ ap (λ (b : Bool). log_of (if b && ((0 == (net.sites a).epoch)
              && nat_le 0 (length (arrived_of (net.sites a) r.object))) then arrived_of (net.sites a) r.object
              else arrived_of (net.sites a) r.object)) (no_life (net.sites a).life ms.some)
            where
              no_life : (n : ℕ) → 0 < n → (0 == n) ≡ false
              no_life n some = by (0 == n) refl
                where
                  by : (b : Bool) → (0 == n) ≡ b → (0 == n) ≡ false
                  by false e = e
                  by true e = absurd (let same : 0 ≡ n = eqb-true 0 n e in
                      let never : ⊥ = omega (same, some, arith) in never)

          told_known : (l : Line) → In l (grant_told (record (net.sites a) { clock = clock }) r).log
              → In l (known (net.sites a)) × (l.object ≡ r.object)
          told_known l among =
              let here : In l (arrived_of (net.sites a) r.object) =
              of_log l (arrived_of (net.sites a) r.object) (subst (λ (ls : List Line). In l ls) whole among) in
              let both = object_in l (net.sites a).arrived r.object here in
              (has.known l both.0, both.1)

      clashes : (c : Clash) → read_clash (relation_at decl r.object) (net.sites a).held tx r.object r.inv ≡ Some c
          → Continues decl acts (after_site net a (moved (record (net.sites a) { clock = clock })
          (clashing decl from number c)))
      clashes c clash = stands decl acts net a run m site up clock
          (moved (record (net.sites a) { clock = clock }) (clashing decl from number c)) more refl refl
          (clash_turn decl (state acts) net.mail a from number c
          (m.holders a c.holder site up (read_holder (relation_at decl r.object)
          (net.sites a).held tx r.object r.inv c clash)))

  -- an Append

  pub append_case : (clock from number : ℕ) (tx : TxId) (epoch named object : ℕ) (view : List Line) (own : List OwnLine)
      → (net.sites a).epoch ≡ (state acts).epoch tx → (net.sites a).closed_for ≡ None
      → ((named ≡ 0) ⊎ (named ≡ (net.sites a).life)) → (net.sites a).clock ≤ clock
      → ((l : Line) → In l view → l.stamp.clock ≤ clock)
      → IsMessage net.mail number a (messages.Request tx epoch named (Append object view own))
      → (state acts).status tx ≢ NotBegun → IsWanted (state acts) tx a named (Append object view own)
      → Continues decl acts (after_site net a (grants decl (record (net.sites a) { clock = clock }) from number tx
      (Append object view own)))
  append_case clock from number tx epoch named object view own current unshut lived more passes request begun wanted =
      append_cases (λ (move : SiteMove). Continues decl acts (after_site net a move)) decl
      (record (net.sites a) { clock = clock }) from number tx object view own granted clashes
    where
      ms : SiteMirrors decl (net.sites a) ((state acts).deeds a) ((state acts).life a)
      ms = m.sites a site up

      free_of : append_clash (relation_at decl object) (net.sites a).held tx own ≡ None → (t : TxId) (x y : Item)
          → In x (own_items own) → IsHeld (held_of (net.sites a).held t) y → same_tx t tx ≡ false → Conflict decl x y
          → ⊥
      free_of free t x y among held other conflict =
          let r : Mapped own_item x own = map_in own_item x own among in
          by r.from r.listed y held (subst (λ (z : Item). Conflict decl z y) r.is conflict)
        where
          by : (l : OwnLine) → In l own → (z : Item) → IsHeld (held_of (net.sites a).held t) z → Conflict decl (Own l) z
              → ⊥
          by l one (Own o) h never = never
          by l one (Lock k) h c =
              let no : depends (relation_at decl object) k.inv l.event ≡ false =
              append_is_free (relation_at decl object) (net.sites a).held tx t own l k free other one h c.0 in
              let yes : depends (relation_at decl object) k.inv l.event ≡ true =
              by_relation decl object k.inv l.event (subst (λ (n : ℕ). IsTrue (depends_at decl n k.inv l.event))
              (wanted.2 l one) c.1) in
              let never : ⊥ = cc in never

      granted : append_clash (relation_at decl object) (net.sites a).held tx own ≡ None
          → Continues decl acts (after_site net a (appends
          (record (net.sites a) { clock = clock }) from number tx view own))
      granted free =
          grants_it decl acts net a run m site up clock from number tx epoch named (Append object view own) tt
          (append_grant (net.sites a).life clock) refl refl
          (appends (record (net.sites a) { clock = clock }) from number tx view own).site
          (record {
            began = (m.alike a site up).began;
            recorded = (m.alike a site up).recorded;
            promises = (m.alike a site up).promises;
          }) going begun request lived
          (grants_more decl ((state acts).life a) (net.sites a)
          (appends (record (net.sites a) { clock = clock }) from number tx view own).site ((state acts).deeds a) tx
          (own_items own) view ms (record { life = refl; epoch = refl; closed_for = refl }) more
          (λ t x among. given_keeps (net.sites a).held tx t [] own x
          (λ o l is same one. agree o l (inr (subst
          (λ (u : TxId). In (Own o) (items_of u (site_after ((state acts).deeds a)).held)) (sym same)
          (subst (λ (y : Item). In y (items_of t (site_after ((state acts).deeds a)).held)) is among))) one)
          (ms.held t x among)) new
          (λ t o h. elim (given_back (net.sites a).held tx t [] own o h)
          [ inl old ↦ inl old | inr given ↦ inr (given.0, In-map own_item o own given.1) ]) passes
          (λ l h. learned_in l (net.sites a).began (net.sites a).log view (inr h))
          (λ l h. learned_in l (net.sites a).began (net.sites a).log view (inl h))
          (λ l h. learned_from l (net.sites a).began (net.sites a).log view h)
          (ms.sorted.0, learned_ascends (net.sites a).began (net.sites a).log view ms.sorted.1 wanted.1) refl)
          (λ t held. given_held (λ (u : TxId). (state acts).status u ≢ NotBegun) (net.sites a).held tx [] own
          (λ u h. m.holders a u site up h) begun t held)
          tt (λ l never. absurd never)
          (λ o i same. absurd (let never : ⊥ = cc in never))
          (λ o i same. absurd (let never : ⊥ = cc in never))
        where
          going : IsRun decl (Grant (grant_of decl (state acts) a clock tx (own_items own) view) ∷ acts)
          going = (
            grant_allowed decl acts net a clock tx (own_items own) view run m site up current unshut more
                (free_of free) (inr wanted.0),
            run,
          )

          -- the machine's site has all of them after it, and there lines of one operation are one
          all_held : (x : OwnLine) → In (Own x) (own_items own)
              ⊎ In (Own x) (items_of tx (site_after ((state acts).deeds a)).held)
              → In (Own x)
              (items_of tx
              (site_after ((state (Grant (grant_of decl (state acts) a clock tx (own_items own) view) ∷ acts)).deeds
              a)).held)
          all_held x h =
              subst (λ (ds : List Deed). In (Own x) (items_of tx (site_after ds).held))
              (sym (put_here (state acts).deeds a ((state acts).deeds a ++ Grants tx (own_items own) view ∷ [])))
              (subst (λ (k : Site). In (Own x) (items_of tx k.held))
              (sym (site_more ((state acts).deeds a) (Grants tx (own_items own) view)))
              (subst (λ (xs : List Item). In (Own x) xs)
              (sym (items_of-append tx (each_held tx (own_items own)) (site_after ((state acts).deeds a)).held))
              (elim h [
                | inl fresh ↦ In-first (Own x) (items_of tx (each_held tx (own_items own)))
                    (items_of tx (site_after ((state acts).deeds a)).held)
                    (subst (λ (xs : List Item). In (Own x) xs) (sym (items_of-each_held tx (own_items own))) fresh)
                | inr old ↦ In-second (Own x) (items_of tx (each_held tx (own_items own)))
                    (items_of tx (site_after ((state acts).deeds a)).held) old
              ])))

          agree : (x l : OwnLine) → In (Own x) (own_items own)
              ⊎ In (Own x) (items_of tx (site_after ((state acts).deeds a)).held) → In l own → x.op ≡ l.op → x ≡ l
          agree x l h among same = held_lines_are_one_an_operation decl accepted
              (Grant (grant_of decl (state acts) a clock tx (own_items own) view) ∷ acts) going a tx x l (all_held x h)
              (all_held l (inl (In-map own_item l own among))) same

          new : (x : Item) → In x (own_items own) → IsHeld (held_of (with_held (net.sites a).held tx [] own) tx) x
          new x among =
              let r : Mapped own_item x own = map_in own_item x own among in
              subst (λ (y : Item). IsHeld (held_of (with_held (net.sites a).held tx [] own) tx) y) (sym r.is)
              (own_given_here (net.sites a).held tx own r.from
              (λ l one same. agree r.from l (inl (In-map own_item r.from own r.listed)) one same) r.listed)

      clashes : (c : Clash) → append_clash (relation_at decl object) (net.sites a).held tx own ≡ Some c
          → Continues decl acts (after_site net a (moved (record (net.sites a) { clock = clock })
          (clashing decl from number c)))
      clashes c clash = stands decl acts net a run m site up clock
          (moved (record (net.sites a) { clock = clock }) (clashing decl from number c)) more refl refl
          (clash_turn decl (state acts) net.mail a from number c
          (m.holders a c.holder site up (append_holder (relation_at decl object)
          (net.sites a).held tx own c clash)))
