-- A client's transaction in form, of so many operations at most, stays so with what is granted to it, and with what is
-- told.
use Rattle.std.proofs.Common.{◌≡◌, ℕ, zero, suc, ◌+◌, ◌≤◌, List, [], ◌∷◌, ◌++◌, length, replicate, Option, Some, None}
use Rattle.std.proofs.Common.{option_map, refl, arith}
use Rattle.std.specs.Prelude.{slice_get, MatchOption, option_and_then}
use Rattle.std.specs.List.{AllByRecursion as Every}
use Rattle.std.specs.Option.{option_map_or}
use Rattle.std.proofs.lemmas.List.{length-append}
use Rattle.qc_list.proofs.Members.{every-append, every-at, every-filter}
use Rattle.qc_decl.specs.declared.declaration.Declaration.{Declaration}
use Rattle.qc_entry.specs.declared.line.Line.{Line}
use Rattle.qc_entry.specs.declared.line.Op.{Op}
use Rattle.qc_entry.proofs.Union.{ascending-union, every-union}
use Rattle.qc_front.specs.declared.transaction.Transaction.{Transaction}
use Rattle.qc_front.specs.Vocabulary.{appended_with, doomed, lived, next_own, op_of, own_appended, read_with, view_log}
use Rattle.qc_front.specs.Vocabulary.{weighs, with_asked, with_event, with_op, with_view}
use Rattle.qc_msg.specs.declared.begun.Begun.{Begun}
use Rattle.qc_msg.specs.declared.message.Answer.{Answer}
use Rattle.qc_record.specs.Vocabulary.{IsOp, IsOwn}
use Rattle.qc_view.specs.Vocabulary.{empty_view, with_log, with_own}
use Rattle.qc_view.specs.declared.view.View.{View}
use Rattle.laws_bounds.proofs.Forms.{CameInForm, EventInForm, InvocationInForm, LineInForm, LinesInForm, OrdinalsInForm}
use Rattle.laws_bounds.proofs.Forms.{PromiseInForm}
use Rattle.qc_front.specs.Answering.{with_granted}
use Rattle.qc_msg.specs.Vocabulary.{granted_in, shut_in}
use Rattle.qc_msg.specs.declared.payload.Snapshot.{Snapshot}
use Rattle.qc_msg.specs.declared.payload.Grant.{Grant}
use Rattle.laws_bounds.proofs.Options.{map_each, map_on}
use Rattle.qc_list.proofs.Places.{every-set}

-- what a commit reads of a client's transaction, of at most n operations
pub record BegunInForm (client n : ℕ) (b : Begun) : Type 0 where
  pub client_is : b.tx.client ≡ client
  pub ordinals : OrdinalsInForm b.tx
  pub ops : Every IsOp b.ops
  pub few : length b.ops ≤ n

abbrev pub ViewsInForm : List View → Type 0
ViewsInForm views = Every (λ (v : View). LinesInForm v.log) views

pub record TransactionInForm (client n : ℕ) (t : Transaction) : Type 0 where
  pub begun : BegunInForm client n t.begun
  pub views : ViewsInForm t.views
  pub own : Every IsOwn t.own

pub no_lines : (n : ℕ) → ViewsInForm (replicate n empty_view)
no_lines zero = tt
no_lines (suc n) = (record { each_is = tt; ascend = tt }, no_lines n)

abbrev ViewInForm : Option View → Type 0
ViewInForm None = Unit {0}
ViewInForm (Some v) = LinesInForm v.log

old_view : (views : List View) (object : ℕ) (o : Option View) → slice_get views object ≡ o → ViewsInForm views
    → ViewInForm o
old_view views object None is w = tt
old_view views object (Some v) is w = every-at (λ (v : View). LinesInForm v.log) views object v w is

owned : (o : Option View) (event : ℕ) → ViewInForm o → ViewInForm (option_map (λ (v : View). with_own v event) o)
owned None event here = tt
owned (Some v) event here = here

logged : (o : Option View) (log : List Line) → ViewInForm o → LinesInForm log
    → ViewInForm (option_map (λ (v : View). with_log v log) o)
logged None log here lines = tt
logged (Some v) log here lines =
    record {
      each_is = every-union LineInForm v.log log here.each_is lines.each_is;
      ascend = ascending-union v.log log here.ascend lines.ascend;
    }

module _ (client : ℕ) where
  begun_weaker : (m n : ℕ) (b : Begun) → m ≤ n → BegunInForm client m b → BegunInForm client n b
  begun_weaker m n b le w =
      record {
        client_is = w.client_is;
        ordinals = w.ordinals;
        ops = w.ops;
        few = (let few : length b.ops ≤ m = w.few in omega (arith, few, le));
      }

  pub weaker : (m n : ℕ) (t : Transaction) → m ≤ n → TransactionInForm client m t → TransactionInForm client n t
  weaker m n t le w = record { begun = begun_weaker m n t.begun le w.begun; views = w.views; own = w.own }

  -- with other sites, lives, or doomed

  pub asked_form : (n : ℕ) (t : Transaction) (sites : List ℕ) → TransactionInForm client n t
      → TransactionInForm client n (with_asked t sites)
  asked_form n t sites w =
      record {
        begun =
            record {
              client_is = w.begun.client_is;
              ordinals = w.begun.ordinals;
              ops = w.begun.ops;
              few = w.begun.few;
            };
        views = w.views;
        own = w.own;
      }

  pub doomed_form : (n : ℕ) (t : Transaction) → TransactionInForm client n t → TransactionInForm client n (doomed t)
  doomed_form n t w =
      record {
        begun =
            record {
              client_is = w.begun.client_is;
              ordinals = w.begun.ordinals;
              ops = w.begun.ops;
              few = w.begun.few;
            };
        views = w.views;
        own = w.own;
      }

  lived_form : (n : ℕ) (t : Transaction) (site life : ℕ) → TransactionInForm client n t
      → TransactionInForm client n (lived t site life)
  lived_form n t site life w =
      record {
        begun =
            record {
              client_is = w.begun.client_is;
              ordinals = w.begun.ordinals;
              ops = w.begun.ops;
              few = w.begun.few;
            };
        views = w.views;
        own = w.own;
      }

  -- another view of an object
  view_form : (n : ℕ) (t : Transaction) (object : ℕ) (o : Option View) → TransactionInForm client n t → ViewInForm o
      → TransactionInForm client n (with_view t object o)
  view_form n t object None w here = w
  view_form n t object (Some v) w here =
      record {
        begun = w.begun;
        views = every-set (λ (v : View). LinesInForm v.log) t.views object v here w.views;
        own = w.own;
      }

  -- an operation more

  op_form : (m n : ℕ) (t : Transaction) (op : Op) → m + 1 ≤ n → IsOp op → TransactionInForm client m t
      → TransactionInForm client n (with_op t op)
  op_form m n t op le here w =
      record {
        begun =
            record {
              client_is = w.begun.client_is;
              ordinals = w.begun.ordinals;
              ops = every-append IsOp t.begun.ops (op ∷ []) w.begun.ops (here, tt);
              few =
                  (let few : length t.begun.ops ≤ m = w.begun.few in
                  let longer : length (t.begun.ops ++ op ∷ []) ≡ length t.begun.ops + 1 =
                  length-append t.begun.ops (op ∷ []) in
                  omega (arith, few, longer, le));
            };
        views = w.views;
        own = w.own;
      }

  pub absent_form : (t : Transaction) (object inv : ℕ) → TransactionInForm client 15 t → InvocationInForm object inv
      → TransactionInForm client 16 (with_op t (op_of object inv None))
  absent_form t object inv w asked =
      op_form 15 16 t (op_of object inv None) (omega arith)
      (record { object = asked.object_is; inv = asked.inv_is; resp = tt }) w

  next_form : (t : Transaction) (object event resp : ℕ) → TransactionInForm client 15 t → EventInForm object event resp
      → IsOwn (next_own t object event)
  next_form t object event resp w here =
      (let few : length t.begun.ops ≤ 15 = w.begun.few in
      record { op = (omega arith, omega (arith, few)); object = here.object_is; event = here.event_is })

  pub event_form : (t : Transaction) (object inv event resp : ℕ) → TransactionInForm client 15 t
      → InvocationInForm object inv → EventInForm object event resp
      → TransactionInForm client 16 (with_event t object inv event resp)
  event_form t object inv event resp w asked here =
      let mine : TransactionInForm client 15 (record t { own = t.own ++ next_own t object event ∷ [] }) =
      record {
        begun = w.begun;
        views = w.views;
        own =
            every-append IsOwn t.own (next_own t object event ∷ []) w.own
            (next_form t object event resp w here, tt);
      } in
      op_form 15 16 _ (op_of object inv (Some resp)) (omega arith)
      (record { object = asked.object_is; inv = asked.inv_is; resp = here.resp_is })
      (view_form 15 (record t { own = t.own ++ next_own t object event ∷ [] }) object
      (option_map (λ (v : View). with_own v event) (slice_get t.views object)) mine
      (owned (slice_get t.views object) event (old_view t.views object (slice_get t.views object) refl w.views)))

  -- a grant

  pub read_form : (n : ℕ) (t : Transaction) (site object : ℕ) (answer : Option Answer) → TransactionInForm client n t
      → CameInForm answer → TransactionInForm client n (read_with t site object answer)
  read_form n t site object None w here = w
  read_form n t site object (Some answer) w here =
      map_on (TransactionInForm client n)
      (MatchOption (shut_in answer) (Unit {0}) (λ (z : Snapshot). LinesInForm z.log × Every PromiseInForm z.prepared))
      (λ (g : Grant). LinesInForm g.log) (λ (g : Grant). with_granted (lived t site g.life) object g.log) t
      (granted_in answer) here w
      (λ g lines. view_form n (lived t site g.life) object
      (option_map (λ (v : View). with_log v g.log) (slice_get t.views object)) (lived_form n t site g.life w)
      (logged (slice_get t.views object) g.log (old_view t.views object (slice_get t.views object) refl w.views) lines))

  pub appended_form : (n : ℕ) (t : Transaction) (site : ℕ) (answer : Option Answer) → TransactionInForm client n t
      → TransactionInForm client n (appended_with t site answer)
  appended_form n t site answer w =
      map_each (TransactionInForm client n) (λ (g : Grant). lived t site g.life) t
      (option_and_then granted_in answer) w (λ g. lived_form n t site g.life w)

  -- what an Append carries

  pub log_form : (n : ℕ) (t : Transaction) (object : ℕ) → TransactionInForm client n t → LinesInForm (view_log t object)
  log_form n t object w =
      by (slice_get t.views object) (old_view t.views object (slice_get t.views object) refl w.views)
    where
      by : (o : Option View) → ViewInForm o → LinesInForm (option_map_or (λ (v : View). v.log) o [])
      by None here = record { each_is = tt; ascend = tt }
      by (Some v) here = here

  pub owns_form : (decl : Declaration) (t : Transaction) (object event resp : ℕ) → TransactionInForm client 15 t
      → EventInForm object event resp → Every IsOwn (own_appended decl t object event)
  owns_form decl t object event resp w here =
      every-append IsOwn _ (next_own t object event ∷ [])
      (every-filter IsOwn (weighs decl t.begun.epoch object) t.own w.own)
      (next_form t object event resp w here, tt)
