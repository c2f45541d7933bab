-- One operation more at a client: its transaction agrees with the machine's still.
use Rattle.std.proofs.Common.{◌≡◌, ◌≢◌, ◌≤◌, ℕ, zero, suc, ◌==◌, ◌&&◌, Bool, true, false, cond, List, [], ◌∷◌, ◌++◌}
use Rattle.std.proofs.Common.{map, Option, Some, None, is_some, slice_get, refl, sym, ap, ◌∙◌, subst, eq-eqb, eqb-true}
use Rattle.std.proofs.Common.{append_assoc}
use Rattle.std.specs.Prelude.{option_map, slice_set}
use Rattle.std.specs.Option.{option_map_or}
use Rattle.std.proofs.lemmas.List.{map-append}
use Rattle.std.proofs.lemmas.List.Elements.{filter-append}
use Rattle.qc_stamp.specs.declared.stamp.TxId.{TxId}
use Rattle.qc_list.specs.Vocabulary.{In}
use Rattle.qc_entry.specs.declared.line.Line.{Line}
use Rattle.qc_entry.specs.declared.line.Op.{Op}
use Rattle.qc_entry.specs.declared.line.OwnLine.{OwnLine}
use Rattle.qc_entry.specs.Vocabulary.{IsAscending}
use Rattle.qc_decl.specs.declared.declaration.Declaration.{Declaration}
use Rattle.qc_msg.specs.declared.begun.LifeAt.{LifeAt}
use Rattle.theory_onecopy.specs.Vocabulary.{Executed, own_line}
use Rattle.theory_machine.specs.Vocabulary.{Aborted, Active, Committed, Granted, IsShown, NotBegun, State, Status}
use Rattle.theory_machine.specs.Vocabulary.{op_of, own_on as machine_own_on}
use Rattle.qc_commit.specs.Vocabulary.{record_of}
use Rattle.qc_view.specs.declared.view.View.{View}
use Rattle.qc_view.specs.Vocabulary.{with_own}
use Rattle.qc_front.specs.declared.transaction.Transaction.{Transaction}
use Rattle.qc_front.specs.Vocabulary.{next_own, op_of as operation_of, own_on, resp_of, view_log, with_event, with_op}
use Rattle.qc_front.specs.Vocabulary.{with_view}
use Rattle.qc_front.proofs.CommandsKeep.{view_keeps}
use Rattle.qc_client.specs.Vocabulary.{is_begun}
use Rattle.qc_client.specs.declared.client.Client.{Client}
use Rattle.laws_refinement.specs.Vocabulary.{LivesMirror, absent_of, chosen_of, name_at}
use Rattle.laws_refinement.proofs.ClientSteps.{Core}

-- logs of views, where one view has another log or the same

abbrev pub log_at : List View → ℕ → List Line
log_at views object = option_map_or (λ (v : View). v.log) (slice_get views object) []

pub log_here : (views : List View) (object : ℕ) (v u : View) → slice_get views object ≡ Some v
    → log_at (slice_set views object u) object ≡ u.log
log_here [] object v u is = absurd (let never : ⊥ = cc in never)
log_here (z ∷ zs) zero v u is = refl
log_here (z ∷ zs) (suc i) v u is = log_here zs i v u is

pub log_there : (views : List View) (object other : ℕ) (u : View) → other ≢ object
    → log_at (slice_set views object u) other ≡ log_at views other
log_there [] object other u apart = refl
log_there (z ∷ zs) zero zero u apart = absurd (apart refl)
log_there (z ∷ zs) zero (suc o) u apart = refl
log_there (z ∷ zs) (suc i) zero u apart = refl
log_there (z ∷ zs) (suc i) (suc o) u apart = log_there zs i o u (λ same. apart (ap (λ (n : ℕ). suc n) same))

same_log : (views : List View) (object other : ℕ) (v u : View) → slice_get views object ≡ Some v → u.log ≡ v.log
    → log_at (slice_set views object u) other ≡ log_at views other
same_log views object other v u is same = by (other == object) refl
  where
    by : (b : Bool) → (other == object) ≡ b → log_at (slice_set views object u) other ≡ log_at views other
    by true e =
        let here : other ≡ object = eqb-true other object e in
        subst (λ (n : ℕ). log_at (slice_set views object u) n ≡ log_at views n) (sym here)
        (log_here views object v u is ∙ same ∙ sym
        (ap (λ (o : Option View). option_map_or (λ (x : View). x.log) o []) is))
    by false e = log_there views object other u
        (λ here. let t : (other == object) ≡ true = eq-eqb other object here in let never : ⊥ = cc in never)

pub own_keeps_logs : (t : Transaction) (object event other : ℕ)
    → view_log (with_view t object (option_map (λ (v : View). with_own v event) (slice_get t.views object))) other
    ≡ view_log t other
own_keeps_logs t object event other = by (slice_get t.views object) refl
  where
    by : (o : Option View) → slice_get t.views object ≡ o
        → view_log (with_view t object (option_map (λ (v : View). with_own v event) o)) other ≡ view_log t other
    by None is = refl
    by (Some v) is = same_log t.views object other v (with_own v event) is refl

pub views_keep_own : (t : Transaction) (object : ℕ) (view : Option View) → (with_view t object view).own ≡ t.own
views_keep_own t object None = refl
views_keep_own t object (Some v) = refl

-- own lines of one operation more

own_on-append : (ds : List Executed) (d : Executed) (object : ℕ)
    → machine_own_on (ds ++ d ∷ []) object ≡ machine_own_on ds object ++ machine_own_on (d ∷ []) object
own_on-append [] d object = refl
own_on-append (x ∷ xs) d object = ap (λ (l : List OwnLine).
    (cond ((x.op.object == object) && is_some x.op.resp) (own_line x ∷ []) []) ++ l) (own_on-append xs d object)
    ∙ sym (append_assoc (cond ((x.op.object == object) && is_some x.op.resp) (own_line x ∷ []) [])
    (machine_own_on xs object) (machine_own_on (d ∷ []) object))

abbrev pub lines_of : Executed → List OwnLine
lines_of d = cond (is_some d.op.resp) (own_line d ∷ []) []

own_last : (d : Executed) (object : ℕ) → own_on (lines_of d) object ≡ machine_own_on (d ∷ []) object
own_last d object = by (is_some d.op.resp) (d.op.object == object) refl
  where
    by : (s t : Bool) → (d.op.object == object) ≡ t
        → own_on (cond s (own_line d ∷ []) []) object ≡ cond (t && s) (own_line d ∷ []) [] ++ []
    by true true is = rw is refl
    by true false is = rw is refl
    by false true is = refl
    by false false is = refl

-- the transaction with the operation
pub record IsWith (t u : Transaction) (d : Executed) : Type 0 where
  pub tx : u.begun.tx ≡ t.begun.tx
  pub epoch : u.begun.epoch ≡ t.begun.epoch
  pub lives : u.begun.lives ≡ t.begun.lives
  pub ops : u.begun.ops ≡ t.begun.ops ++ d.op ∷ []
  pub own : u.own ≡ t.own ++ lines_of d
  pub logs : (object : ℕ) → view_log u object ≡ view_log t object

pub event_is_with : (decl : Declaration) (t : Transaction) (object inv event : ℕ)
    → IsWith t (with_event t object inv event (resp_of decl object event)) (chosen_of decl t object inv event)
event_is_with decl t object inv event = record {
  tx = ap (λ b. b.tx) kept;
  epoch = ap (λ b. b.epoch) kept;
  lives = ap (λ b. b.lives) kept;
  ops = ap (λ b. b.ops ++ operation_of object inv (Some (resp_of decl object event)) ∷ []) kept;
  own = views_keep_own s object (option_map (λ (v : View). with_own v event) (slice_get t.views object));
  logs = λ other. own_keeps_logs (record t { own = t.own ++ next_own t object event ∷ [] }) object event other;
}
  where
    s : Transaction
    s = record t { own = t.own ++ next_own t object event ∷ [] }

    kept : (with_view (record t { own = t.own ++ next_own t object event ∷ [] }) object
        (option_map (λ (v : View). with_own v event) (slice_get t.views object))).begun ≡ t.begun
    kept = view_keeps (record t { own = t.own ++ next_own t object event ∷ [] }) object
        (option_map (λ (v : View). with_own v event) (slice_get t.views object))

append-none : (xs : List OwnLine) → xs ≡ xs ++ []
append-none [] = refl
append-none (x ∷ xs) = ap (λ (l : List OwnLine). x ∷ l) (append-none xs)

pub absent_is_with : (t : Transaction) (object inv : ℕ)
    → IsWith t (with_op t (operation_of object inv None)) (absent_of t object inv)
absent_is_with t object inv = record {
  tx = refl;
  epoch = refl;
  lives = refl;
  ops = refl;
  own = append-none t.own;
  logs = λ other. refl;
}

pub executed_core : (decl : Declaration) (w v : State) (a : ℕ) (c : Client) (t u : Transaction) (d : Executed)
    → Core decl w a c t → v.status ≡ w.status → v.clock ≡ w.clock → v.counted ≡ w.counted → v.epoch ≡ w.epoch
    → v.executed t.begun.tx ≡ w.executed t.begun.tx ++ d ∷ [] → IsWith t u d → Core decl v a c u
executed_core decl w v a c t u d k status clock counted epochs executed is = record {
  own = record {
    actor = k.own.actor;
    desk = k.own.desk;
    epoch = k.own.epoch;
    desk_epoch = k.own.desk_epoch;
    clock = subst (λ (f : ℕ → ℕ). f c.front.client ≤ c.front.clock.value) (sym clock) k.own.clock;
    lives_to_come = λ u mine later. subst (λ (s : TxId → Status). s u ≡ NotBegun) (sym status)
        (k.own.lives_to_come u mine later);
    to_come = λ n later. subst (λ (s : TxId → Status). s (name_at c.front n) ≡ NotBegun) (sym status)
        (k.own.to_come n later);
    committed = λ x among. subst (λ (s : TxId → Status). (x.tx.client ≡ c.front.client) × (s x.tx ≡ Committed x))
        (sym status) (k.own.committed x among);
    aborted = subst (λ (n : TxId). (x : TxId) → x.client ≡ c.front.client → v.status x ≢ NotBegun
        → is_begun x (Some (record t { begun = record t.begun { tx = n } })) ≡ false → record_of c.desk.commits x ≡ None
        → v.status x ≡ Aborted) (sym is.tx)
        (subst (λ (s : TxId → Status). (x : TxId) → x.client ≡ c.front.client → s x ≢ NotBegun
        → is_begun x (Some t) ≡ false → record_of c.desk.commits x ≡ None → s x ≡ Aborted)
        (sym status) k.own.aborted);
  };
  begun = record {
    named = is.tx ∙ k.begun.named;
    epoch = is.epoch ∙ k.begun.epoch ∙ ap (λ (f : TxId → ℕ). f t.begun.tx) (sym epochs) ∙ ap v.epoch (sym is.tx);
    lives = subst (λ (ls : List LifeAt). LivesMirror v.counted u.begun.tx ls) (sym is.lives)
        (subst (λ (n : TxId). LivesMirror v.counted n t.begun.lives) (sym is.tx)
        (subst (λ (gs : List Granted). LivesMirror gs t.begun.tx t.begun.lives) (sym counted) k.begun.lives));
    ops = is.ops ∙ ap (λ (l : List Op). l ++ d.op ∷ []) k.begun.ops
        ∙ sym (map-append op_of (w.executed t.begun.tx) (d ∷ []))
        ∙ ap (λ (ds : List Executed). map op_of ds) (sym executed_now);
    own = λ object. ap (λ (os : List OwnLine). own_on os object) is.own
        ∙ filter-append (λ (l : OwnLine). l.object == object) t.own (lines_of d)
        ∙ ap (λ (l : List OwnLine). l ++ own_on (lines_of d) object) (k.begun.own object)
        ∙ ap (λ (l : List OwnLine). machine_own_on (w.executed t.begun.tx) object ++ l) (own_last d object)
        ∙ sym (own_on-append (w.executed t.begun.tx) d object)
        ∙ ap (λ (ds : List Executed). machine_own_on ds object) (sym executed_now);
    sorted = λ object. subst (λ (ls : List Line). IsAscending ls) (sym (is.logs object)) (k.begun.sorted object);
    shown = λ object l among. (let r : (l.object ≡ object)
        × IsShown w.counted t.begun.tx l = k.begun.shown object l
        (subst (λ (ls : List Line). In l ls) (is.logs object) among) in (
          r.0,
          subst (λ (n : TxId). IsShown v.counted n l) (sym is.tx)
              (subst (λ (gs : List Granted). IsShown gs t.begun.tx l) (sym counted) r.1),
        ));
    whole = λ l s. subst (λ (ls : List Line). In l ls) (sym (is.logs l.object))
        (k.begun.whole l (subst (λ (n : TxId). IsShown w.counted n l) is.tx
        (subst (λ (gs : List Granted). IsShown gs u.begun.tx l) counted s)));
  };
  active = ap v.status is.tx ∙ subst (λ (s : TxId → Status). s t.begun.tx ≡ Active) (sym status) k.active;
  voting = k.voting;
}
  where
    executed_now : v.executed u.begun.tx ≡ w.executed t.begun.tx ++ d ∷ []
    executed_now = ap v.executed is.tx ∙ executed
