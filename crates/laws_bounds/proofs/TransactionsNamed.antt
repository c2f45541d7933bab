-- A transaction that names declared things does so with what is granted to it, and with what is told.
use Rattle.std.proofs.Common.{◌≡◌, ℕ, zero, suc, List, [], ◌∷◌, ◌++◌, replicate, Option, Some, None, option_map, refl}
use Rattle.std.specs.Prelude.{slice_get, MatchOption, option_and_then}
use Rattle.std.specs.List.{AllByRecursion as Every}
use Rattle.std.specs.Option.{option_map_or}
use Rattle.qc_list.proofs.Members.{every-append, every-at, every-filter}
use Rattle.qc_decl.specs.declared.declaration.Declaration.{Declaration}
use Rattle.qc_entry.specs.declared.line.Line.{Line}
use Rattle.qc_entry.specs.declared.line.OwnLine.{OwnLine}
use Rattle.qc_entry.proofs.Union.{every-union}
use Rattle.qc_fit.specs.Vocabulary.{HasEvent, HasInvocation, IsOpDeclared}
use Rattle.qc_front.specs.declared.transaction.Transaction.{Transaction}
use Rattle.qc_front.specs.Vocabulary.{appended_with, lived, next_own, op_of, own_appended, read_with, resp_of, view_log}
use Rattle.qc_front.specs.Vocabulary.{weighs, with_event, with_view}
use Rattle.qc_msg.specs.declared.message.Answer.{Answer}
use Rattle.qc_view.specs.Vocabulary.{empty_view, with_log, with_own}
use Rattle.qc_view.specs.declared.view.View.{View}
use Rattle.laws_bounds.proofs.EventsNamed.{EventNamed}
use Rattle.laws_bounds.proofs.Names.{CameNamed, LineNamed, LinesNamed, OpsNamed, OwnsNamed, PromiseNamed}
use Rattle.qc_front.specs.Answering.{with_granted}
use Rattle.qc_msg.specs.Vocabulary.{granted_in, shut_in}
use Rattle.qc_msg.specs.declared.payload.Snapshot.{Snapshot}
use Rattle.qc_msg.specs.declared.payload.Grant.{Grant}
use Rattle.laws_bounds.proofs.Options.{map_each, map_on}
use Rattle.qc_list.proofs.Places.{every-set}

module _ (decl : Declaration) where
  abbrev pub ViewsNamed : List View → Type 0
  ViewsNamed views = Every (λ (v : View). LinesNamed decl v.log) views

  pub record TransactionNamed (t : Transaction) : Type 0 where
    pub views : ViewsNamed t.views
    pub own : OwnsNamed decl t.own
    pub ops : OpsNamed decl t.begun.ops

  abbrev pub BegunNamed : Option Transaction → Type 0
  BegunNamed None = Unit {0}
  BegunNamed (Some t) = TransactionNamed t

  pub no_lines : (n : ℕ) → ViewsNamed (replicate n empty_view)
  no_lines zero = tt
  no_lines (suc n) = (tt, no_lines n)

  -- another view of an object

  abbrev ViewNamed : Option View → Type 0
  ViewNamed None = Unit {0}
  ViewNamed (Some v) = LinesNamed decl v.log

  view_named : (t : Transaction) (object : ℕ) (o : Option View) → TransactionNamed t → ViewNamed o
      → TransactionNamed (with_view t object o)
  view_named t object None w here = w
  view_named t object (Some v) w here =
      record {
        views = every-set (λ (v : View). LinesNamed decl v.log) t.views object v here w.views;
        own = w.own;
        ops = w.ops;
      }

  old_named : (views : List View) (object : ℕ) (o : Option View) → slice_get views object ≡ o → ViewsNamed views
      → ViewNamed o
  old_named views object None is w = tt
  old_named views object (Some v) is w = every-at (λ (v : View). LinesNamed decl v.log) views object v w is

  owned : (o : Option View) (event : ℕ) → ViewNamed o → ViewNamed (option_map (λ (v : View). with_own v event) o)
  owned None event here = tt
  owned (Some v) event here = here

  logged : (o : Option View) (log : List Line) → ViewNamed o → LinesNamed decl log
      → ViewNamed (option_map (λ (v : View). with_log v log) o)
  logged None log here lines = tt
  logged (Some v) log here lines = every-union (LineNamed decl) v.log log here lines

  pub event_named : (t : Transaction) (object inv event : ℕ) → TransactionNamed t → HasInvocation decl object inv
      → EventNamed decl object event
      → TransactionNamed (with_event t object inv event (resp_of decl object event))
  event_named t object inv event w asked here =
      let mine : TransactionNamed (record t { own = t.own ++ next_own t object event ∷ [] }) =
      record {
        views = w.views;
        own = every-append (λ (o : OwnLine). HasEvent decl o.object o.event) t.own
            (next_own t object event ∷ []) w.own (here.event_is, tt);
        ops = w.ops;
      } in
      let viewed : TransactionNamed
      (with_view (record t { own = t.own ++ next_own t object event ∷ [] }) object
      (option_map (λ (v : View). with_own v event) (slice_get t.views object))) =
      view_named (record t { own = t.own ++ next_own t object event ∷ [] }) object
      (option_map (λ (v : View). with_own v event) (slice_get t.views object)) mine
      (owned (slice_get t.views object) event (old_named t.views object (slice_get t.views object) refl w.views)) in
      record {
        views = viewed.views;
        own = viewed.own;
        ops =
            every-append (IsOpDeclared decl) _ (op_of object inv (Some (resp_of decl object event)) ∷ []) viewed.ops
            (record { inv = asked; resp = here.resp_is }, tt);
      }

  pub absent_named : (t : Transaction) (object inv : ℕ) → TransactionNamed t → HasInvocation decl object inv
      → OpsNamed decl (t.begun.ops ++ op_of object inv None ∷ [])
  absent_named t object inv w asked =
      every-append (IsOpDeclared decl) t.begun.ops (op_of object inv None ∷ []) w.ops
      (record { inv = asked; resp = tt }, tt)

  pub read_named : (t : Transaction) (site object : ℕ) (answer : Option Answer) → TransactionNamed t
      → CameNamed decl answer
      → TransactionNamed (read_with t site object answer)
  read_named t site object None w here = w
  read_named t site object (Some answer) w here =
      map_on TransactionNamed
      (MatchOption (shut_in answer) (Unit {0})
      (λ (z : Snapshot). LinesNamed decl z.log × Every (PromiseNamed decl) z.prepared))
      (λ (g : Grant). LinesNamed decl g.log) (λ (g : Grant). with_granted (lived t site g.life) object g.log) t
      (granted_in answer) here w
      (λ g lines. view_named (lived t site g.life) object
      (option_map (λ (v : View). with_log v g.log) (slice_get t.views object))
      (record { views = w.views; own = w.own; ops = w.ops })
      (logged (slice_get t.views object) g.log (old_named t.views object (slice_get t.views object) refl w.views)
      lines))

  pub appended_named : (t : Transaction) (site : ℕ) (answer : Option Answer) → TransactionNamed t
      → TransactionNamed (appended_with t site answer)
  appended_named t site answer w =
      map_each TransactionNamed (λ (g : Grant). lived t site g.life) t (option_and_then granted_in answer) w
      (λ g. record { views = w.views; own = w.own; ops = w.ops })

  -- what an Append carries

  pub log_named : (t : Transaction) (object : ℕ) → TransactionNamed t → LinesNamed decl (view_log t object)
  log_named t object w =
      by (slice_get t.views object) (old_named t.views object (slice_get t.views object) refl w.views)
    where
      by : (o : Option View) → ViewNamed o → LinesNamed decl (option_map_or (λ (v : View). v.log) o [])
      by None here = tt
      by (Some v) here = here

  pub owns_named : (t : Transaction) (object event : ℕ) → TransactionNamed t → EventNamed decl object event
      → OwnsNamed decl (own_appended decl t object event)
  owns_named t object event w here =
      every-append (λ (o : OwnLine). HasEvent decl o.object o.event) _ (next_own t object event ∷ [])
      (every-filter (λ (o : OwnLine). HasEvent decl o.object o.event) (weighs decl t.begun.epoch object) t.own w.own)
      (here.event_is, tt)
