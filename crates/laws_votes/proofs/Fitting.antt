-- What a site would promise of a transaction that a client runs fits a record, through falls, within twice the limit of
-- committed operations.
use Rattle.std.proofs.Common.{◌*◌, ◌≡◌, ◌≤◌, ◌<◌, ◌+◌, ◌-◌, ℕ, suc, nat_le, not, Bool, true, false, List, [], ◌∷◌, inl}
use Rattle.std.proofs.Common.{inr, length, Option, Some, None, slice_get, refl, sym, ap, ◌∙◌, subst, arith, ltb-true}
use Rattle.std.specs.Prelude.{sum_by, count_by, option_and_then, option_map}
use Rattle.std.proofs.lemmas.Bool.{le-leb}
use Rattle.std.proofs.lemmas.List.Sums.{count_by-le-length, fold-append, length-filter}
use Rattle.laws_votes.proofs.FewOperations.{few_executed}
use Rattle.laws_votes.proofs.Inputs.{TookAt, taken_at}
use Rattle.laws_votes.proofs.Ordered.{holds_in_order}
use Rattle.laws_bounds.proofs.ActorsNamed.{MoveNamed, StateNamed}
use Rattle.laws_bounds.proofs.HeldNamed.{has_named}
use Rattle.laws_bounds.proofs.HistoriesNamed.{run_named}
use Rattle.laws_bounds.proofs.SitesNamed.{SiteNamed}
use Rattle.qc_core.specs.Vocabulary.{IsLawfulWithFalls, IsShown, actor_after, is_up, up_at}
use Rattle.qc_core.specs.declared.actor.Actor.TheVariants as actor
use Rattle.qc_entry.proofs.Union.{in_second}
use Rattle.qc_decl.specs.Vocabulary.{IsAccepted, actors, is_client, is_site, most_committed_operations}
use Rattle.qc_decl.specs.Vocabulary.{most_record_bytes}
use Rattle.qc_decl.specs.declared.declaration.Declaration.{Declaration}
use Rattle.qc_entry.specs.Vocabulary.{has_line, without}
use Rattle.qc_entry.specs.declared.line.Line.{Line}
use Rattle.qc_entry.specs.declared.line.OwnLine.{OwnLine}
use Rattle.qc_entry.specs.declared.line.ReadLock.{ReadLock}
use Rattle.qc_entry.specs.declared.record.Commit.{Commit as CommitRecord}
use Rattle.qc_entry.specs.declared.record.Prepared.{Prepared}
use Rattle.qc_fit.specs.Vocabulary.{HasInvocation}
use Rattle.laws_guarantees.proofs.Lengths.{key, lock_count, log_count, own_count}
use Rattle.laws_guarantees.proofs.Room.{numbered_within}
use Rattle.laws_votes.proofs.Nets.{logged_by, net, now, reached, refined}
use Rattle.qc_link.specs.Vocabulary.{most_actors}
use Rattle.qc_list.specs.Vocabulary.{In}
use Rattle.qc_list.proofs.Members.{every-In}
use Rattle.laws_turns.proofs.FallKept.{clients_rise_with_own_stamps_where_records_are_kept}
use Rattle.laws_turns.proofs.FallServed.{sites_are_what_their_steps_show_with_falls}
use Rattle.qc_lock.proofs.Order.{sorted-find}
use Rattle.qc_lock.specs.Vocabulary.{IsSound, held_of}
use Rattle.qc_msg.specs.Vocabulary.{Deed, Entry, Takes, answered, deeds, prepare_length}
use Rattle.qc_msg.specs.declared.record.Record.{Record}
use Rattle.laws_refinement.proofs.NetLaws.{site_lines}
use Rattle.laws_refinement.specs.Vocabulary.{SiteMirrors}
use Rattle.theory_onecopy.specs.Vocabulary.{Executed, IsLogged, own_line}
use Rattle.qc_promise.specs.Vocabulary.{Current, Kept, account, fits_record, promise_due, records}
use Rattle.theory_machine.proofs.LogKeeps.{log_laws}
use Rattle.theory_machine.specs.Vocabulary.{IsExecutedOrChosen, IsOwnClosedAt, LogLaws, State, items_of, site_after}
use Rattle.laws_reach.proofs.Stood.{in_site}
use Rattle.laws_reach.specs.Vocabulary.{HasTaken}
use Rattle.qc_script.specs.Vocabulary.{IsScriptFor, RunsWithFalls}
use Rattle.qc_script.specs.declared.script.Script.{Script}
use Rattle.qc_site.specs.Vocabulary.{SiteState, promise_of}
use Rattle.qc_stamp.specs.declared.stamp.TxId.{TxId}
use Rattle.qc_table.specs.Vocabulary.{Rules}
use Rattle.qc_table.specs.declared.kind.Kind.{Kind}
use Rattle.laws_reach.proofs.RunLaws.{same_site}
use Rattle.qc_list.proofs.Places.{place_within}
use Rattle.qc_promise.proofs.Posts.{kept_part}

-- a declared object, and an invocation of its type
named_low : (decl : Declaration) → IsAccepted decl → (object inv : ℕ) → HasInvocation decl object inv
    → (object < 16) × (inv < 32)
named_low decl accepted object inv n = by (slice_get decl.objects object) refl n.declared
  where
    of_kind : (number : ℕ) (o : Option Kind) → slice_get decl.kinds number ≡ o
        → option_map (λ (k : Kind). k.table) o ≡ Some n.table → inv < 32
    of_kind number None found is = absurd (let never : ⊥ = cc in never)
    of_kind number (Some kind) found is =
        let same : kind.table ≡ n.table = cc in
        let low : inv < n.table.invs = n.below in
        let most : kind.table.invs ≤ 32 = (accepted.right number kind found).sound.invs in
        let invs : kind.table.invs ≡ n.table.invs = ap (λ (r : Rules). r.invs) same in
        omega arith

    by : (o : Option ℕ) → slice_get decl.objects object ≡ o
        → option_and_then (λ (kind : ℕ). option_map (λ (k : Kind). k.table) (slice_get decl.kinds kind)) o
        ≡ Some n.table → (object < 16) × (inv < 32)
    by None none is = absurd (let never : ⊥ = cc in never)
    by (Some number) at is =
        let place : object < length decl.objects = place_within decl.objects object number at in
        let objects : length decl.objects ≤ 16 = accepted.objects in
        let invs : inv < 32 = of_kind number (slice_get decl.kinds number) refl is in
        (omega arith, invs)

module _ (fits : ℕ → List Record → Type 0) (decl : Declaration) (script : Script) (h : List Entry)
    (open_inputs : List Bool) (accepted : IsAccepted decl) (sound : IsScriptFor decl script)
    (run : RunsWithFalls (IsLawfulWithFalls decl) fits decl script h open_inputs) (kept : Kept h) where
  abbrev then : State
  then = now fits decl script h open_inputs accepted sound run kept

  few : actors decl ≤ most_actors
  few = let s = accepted.sites in let c = accepted.clients in omega arith

  module _ (b : ℕ) (site : is_site decl b ≡ true) (up : is_up (deeds b [] h) ≡ true) where
    abbrev s : SiteState
    s = (net fits decl script h open_inputs accepted sound run kept).sites b

    mir : SiteMirrors decl s (then.deeds b) (then.life b)
    mir = (refined fits decl script h open_inputs accepted sound run kept).agrees.sites b site
        ((reached fits decl script h open_inputs accepted sound run kept).up_is b (inl site) ∙ up)

    -- the site after these deeds, in a run in which it has no open input, is what they show, it is in order, and names
    -- what is declared
    pub record IsSeen (before : List Deed) : Type 0 where
      pub shown : IsShown before s
      pub named : SiteNamed decl s
      pub ordered : IsSound s.held

    seen : (older : List Entry) (inputs : List Bool)
        → RunsWithFalls (IsLawfulWithFalls decl) fits decl script older inputs → Kept older
        → slice_get inputs b ≡ Some false → is_up (deeds b [] older) ≡ true
        → (actor_after decl b (deeds b [] older)).actor ≡ actor.Site s → IsSeen (deeds b [] older)
    seen older inputs r k free was_up is =
        let v = sites_are_what_their_steps_show_with_falls decl script fits few older inputs r
        (clients_rise_with_own_stamps_where_records_are_kept decl script fits few older inputs r k) b
        (ltb-true b decl.sites site) free was_up in
        let n : MoveNamed decl b (actor_after decl b (deeds b [] older)) =
        (run_named decl accepted script sound fits older inputs r k).actors_are b in
        let w : StateNamed decl b (actor.Site s) = subst (StateNamed decl b) is n.state in
        record {
          shown = subst (IsShown (deeds b [] older)) (same_site v.0 s (sym v.1 ∙ is)) v.2;
          named = w.1;
          ordered = holds_in_order decl b (deeds b [] older) s is;
        }

    -- without an open input

    pub seen_free : slice_get open_inputs b ≡ Some false → IsSeen (deeds b [] h)
    seen_free free = seen h open_inputs run kept free up
        ((reached fits decl script h open_inputs accepted sound run kept).actors_are b (inl site) up free
        ∙ in_site decl (net fits decl script h open_inputs accepted sound run kept) b site)

    -- with one: before it

    pub taken_before : slice_get open_inputs b ≡ Some true
        → HasTaken decl (net fits decl script h open_inputs accepted sound run kept) b h
    taken_before slot = (reached fits decl script h open_inputs accepted sound run kept).actors_were b
        (inl site) up slot

    pub seen_before : (x : HasTaken decl (net fits decl script h open_inputs accepted sound run kept) b h)
        → IsSeen x.before
    seen_before x =
        let m : TookAt decl script fits h b x.before x.given =
        taken_at decl script fits h open_inputs run b x.before x.given [] x.deeds_are in
        let was_up : is_up x.before ≡ true = sym (fold-append up_at true x.before (Takes x.given ∷ []))
        ∙ sym (ap is_up x.deeds_are) ∙ up in
        subst IsSeen m.deeds_are
        (seen m.older m.inputs m.run (kept_part m.older m.more (subst Kept (sym m.grows) kept)) m.free
        (ap is_up m.deeds_are ∙ was_up)
        (ap (λ (v : List Deed). (actor_after decl b v).actor) m.deeds_are ∙ x.was
        ∙ in_site decl (net fits decl script h open_inputs accepted sound run kept) b site))

    -- the locks of one transaction

    locks_few : (named : SiteNamed decl s) → IsSound s.held → (tx : TxId) → length (held_of s.held tx).locks ≤ 512
    locks_few named ordered tx =
        let n : length (held_of s.held tx).locks ≤ 512 - 0 =
        lock_count (held_of s.held tx).locks 0 (sorted-find s.held tx ordered.sorted).0 (λ l among. low l among) in
        omega arith
      where
        low : (l : ReadLock) → In l (held_of s.held tx).locks → (0 ≤ key l) × (l.object < 16) × (l.inv < 32)
        low l among =
            let b : (l.object < 16) × (l.inv < 32) =
            named_low decl accepted l.object l.inv (every-In (λ (x : ReadLock). HasInvocation decl x.object x.inv) l
            (held_of s.held tx).locks (has_named decl s.held tx named.held).locks among) in
            (omega arith, b.0, b.1)

    -- its log has at most as many lines as these records have operations, where they have all that were committed

    logged : (commits : List CommitRecord) → ((c : CommitRecord) → In c (records decl h) → In c commits) → (l : Line)
        → In l s.log → IsLogged decl commits l
    logged commits all l among =
        logged_by fits decl script h open_inputs accepted sound run kept commits all l
        (site_lines decl accepted (net fits decl script h open_inputs accepted sound run kept)
        (reached fits decl script h open_inputs accepted sound run kept).reached b l site
        ((reached fits decl script h open_inputs accepted sound run kept).up_is b (inl site) ∙ up)
        (in_second l s.began s.log among))

    lines_few : (commits : List CommitRecord) → ((c : CommitRecord) → In c (records decl h) → In c commits)
        → length (without s.log s.recorded) ≤ sum_by (λ (c : CommitRecord). answered c.ops) commits
    lines_few commits all =
        let whole : length s.log ≤ sum_by (λ (c : CommitRecord). answered c.ops) commits =
        log_count decl commits s.log mir.sorted.1 (logged commits all) in
        let part : length (without s.log s.recorded) ≡ count_by (λ (l : Line). not (has_line s.recorded l)) s.log =
        length-filter (λ (l : Line). not (has_line s.recorded l)) s.log in
        let less : count_by (λ (l : Line). not (has_line s.recorded l)) s.log ≤ length s.log =
        count_by-le-length (λ (l : Line). not (has_line s.recorded l)) s.log in
        omega arith

    module _ (commits : List CommitRecord) (all : (c : CommitRecord) → In c (records decl h) → In c commits)
        (within : sum_by (λ (c : CommitRecord). answered c.ops) commits ≤ 2 * most_committed_operations)
        (a : ℕ) (client : is_client decl a ≡ true) (t : Current) (begun : (account decl a h).current ≡ Some t) where
      -- the own lines of a transaction that a client runs

      own_low : (o : OwnLine) → In o (held_of s.held t.tx).own → o.op ≤ 17
      own_low o among =
          let c : IsOwnClosedAt decl then.executed then.chosen t.tx (site_after (then.deeds b)).volatile
          (items_of t.tx (site_after (then.deeds b)).held) o =
          (laws_now.sites b).own_closed t.tx o (mir.owned t.tx o among) in
          by c.operation c.is c.known
        where
          laws_now : LogLaws decl then
          laws_now = log_laws decl accepted (refined fits decl script h open_inputs accepted sound run kept).acts
              (refined fits decl script h open_inputs accepted sound run kept).run

          short : length (then.executed t.tx) ≤ 16
          short = few_executed fits decl script h open_inputs accepted sound run kept a client t begun

          by : (d : Executed) → o ≡ own_line d → IsExecutedOrChosen (then.executed t.tx) (then.chosen t.tx) d
              → o.op ≤ 17
          by d same (inl executed) =
              let n : d.number ≤ 0 + length (then.executed t.tx) =
              numbered_within (then.executed t.tx) [] d (laws_now.order t.tx) executed in
              let e : o.op ≡ d.number = ap (λ (x : OwnLine). x.op) same in
              let m : length (then.executed t.tx) ≤ 16 = short in
              omega arith
          by d same (inr chosen) =
              let n : d.number ≡ suc (length (then.executed t.tx)) = (laws_now.next t.tx d chosen).0.numbered in
              let e : o.op ≡ d.number = ap (λ (x : OwnLine). x.op) same in
              let m : length (then.executed t.tx) ≤ 16 = short in
              omega arith

      own_few : IsSound s.held → length (held_of s.held t.tx).own ≤ 18
      own_few ordered =
          let n : length (held_of s.held t.tx).own ≤ (17 + 1) - 0 =
          own_count (held_of s.held t.tx).own 0 17 (sorted-find s.held t.tx ordered.sorted).1
          (λ o among. (omega arith, own_low o among)) in
          omega arith

      -- so what it would promise fits

      pub promise_fits : (before : List Deed) → IsSeen before → fits_record (promise_due before t.tx) ≡ true
      promise_fits before k =
          subst (λ (p : Prepared). nat_le (prepare_length p) most_record_bytes ≡ true) (sym promise_shown) short
        where
          promise_shown : promise_due before t.tx ≡ promise_of s t.tx
          promise_shown = λ i. record {
            tx = t.tx;
            epoch = sym k.shown.epoch i;
            locks = (held_of (sym k.shown.held i) t.tx).locks;
            own = (held_of (sym k.shown.held i) t.tx).own;
            lines = without (sym k.shown.log i) (sym k.shown.recorded i);
          }

          short : nat_le (prepare_length (promise_of s t.tx)) most_record_bytes ≡ true
          short =
              let locks : length (held_of s.held t.tx).locks ≤ 512 = locks_few k.named k.ordered t.tx in
              let own : length (held_of s.held t.tx).own ≤ 18 = own_few k.ordered in
              let lines : length (without s.log s.recorded) ≤ sum_by (λ (c : CommitRecord). answered c.ops) commits =
              lines_few commits all in
              le-leb (prepare_length (promise_of s t.tx)) most_record_bytes (omega arith)
