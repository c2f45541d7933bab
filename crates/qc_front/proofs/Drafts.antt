-- What becomes of a draft is what becomes of its transaction.
use Rattle.std.proofs.Common.{◌≡◌, ℕ, zero, suc, ◌++◌, true, false, List, [], ◌∷◌, Option, Some, None, is_some}
use Rattle.std.proofs.Common.{option_map, option_and_then, refl, sym, ap, ◌∙◌}
use Rattle.std.specs.Prelude.{slice_get, slice_set}
use Rattle.std.specs.Option.{option_map_or}
use Rattle.qc_decl.specs.declared.declaration.Declaration.{Declaration}
use Rattle.qc_decl.specs.Vocabulary.{table_at}
use Rattle.qc_entry.specs.declared.line.Line.{Line}
use Rattle.qc_entry.specs.declared.line.OwnLine.{OwnLine}
use Rattle.qc_msg.specs.declared.begun.Begun.{Begun}
use Rattle.qc_msg.specs.declared.message.Answer.{Answer}
use Rattle.qc_msg.specs.declared.message.Answer.TheVariants as answers
use Rattle.qc_msg.specs.declared.message.Want.{Want}
use Rattle.qc_msg.specs.declared.message.Want.TheVariants.{Append}
use Rattle.qc_table.specs.Vocabulary.{Rules}
use Rattle.qc_view.specs.declared.view.View.{View}
use Rattle.qc_view.specs.Vocabulary.{answer_in, with_log, with_own}
use Rattle.qc_front.specs.declared.draft.Draft.{Draft}
use Rattle.qc_front.specs.declared.transaction.Transaction.{Transaction}
use Rattle.qc_front.specs.Vocabulary.{IsDraft, answer_in_draft, answer_of, append_want, append_want_of, appended_draft}
use Rattle.qc_front.specs.Vocabulary.{appended_with, draft_of, drafted, event_draft, lived, lived_draft, next_own}
use Rattle.qc_front.specs.Vocabulary.{op_of, own_appended, read_draft, read_with, views_with, with_event, with_granted}
use Rattle.qc_front.specs.Vocabulary.{with_op, with_view}

-- what was put at a place is found there, and the last counts

get_set : (views : List View) (i : ℕ) (v : View) → is_some (slice_get views i) ≡ true
    → slice_get (slice_set views i v) i ≡ Some v
get_set [] i v has = absurd (let never : false ≡ true = has in cc)
get_set (x ∷ xs) zero v has = refl
get_set (x ∷ xs) (suc i) v has = get_set xs i v has

set_set : (views : List View) (i : ℕ) (v w : View) → slice_set (slice_set views i v) i w ≡ slice_set views i w
set_set [] i v w = refl
set_set (x ∷ xs) zero v w = refl
set_set (x ∷ xs) (suc i) v w = ap (λ (ys : List View). x ∷ ys) (set_set xs i v w)

set_get : (views : List View) (i : ℕ) → views_with views i (slice_get views i) ≡ views
set_get [] i = refl
set_get (x ∷ xs) zero = refl
set_get (x ∷ xs) (suc i) = by (slice_get xs i) (set_get xs i)
  where
    by : (o : Option View) → views_with xs i o ≡ xs → views_with (x ∷ xs) (suc i) o ≡ x ∷ xs
    by None same = refl
    by (Some v) same = ap (λ (ys : List View). x ∷ ys) same

none_of : (o : Option View) → is_some o ≡ false → o ≡ None
none_of None e = refl
none_of (Some v) e = absurd (let never : true ≡ false = e in cc)

-- the view of a drafted transaction
pub view_is : (views : List View) (object : ℕ) (view : Option View) → is_some view ≡ is_some (slice_get views object)
    → slice_get (views_with views object view) object ≡ view
view_is views object None has = none_of (slice_get views object) (sym has)
view_is views object (Some v) has = get_set views object v (sym has)

-- a transaction is what its draft becomes, and the draft has a view where the transaction has one

pub undone : (t : Transaction) (object : ℕ) → drafted t.views (draft_of t object) ≡ t
undone t object = ap (λ (views : List View). record t { views = views }) (set_get t.views object)

-- the view of a drafted transaction is another one
with_view_is : (begun : Begun) (own : List OwnLine) (views : List View) (object : ℕ) (view : Option View)
    (f : View → View)
    → with_view (record { begun = begun; views = views_with views object view; own = own }) object (option_map f view)
    ≡ record { begun = begun; views = views_with views object (option_map f view); own = own }
with_view_is begun own views object None f = refl
with_view_is begun own views object (Some v) f =
    ap (λ (vs : List View). record { begun = begun; views = vs; own = own }) (set_set views object v (f v))

changed_view : (begun : Begun) (own : List OwnLine) (views : List View) (object : ℕ) (view : Option View)
    (f : View → View) → is_some view ≡ is_some (slice_get views object)
    → with_view (record { begun = begun; views = views_with views object view; own = own }) object
    (option_map f (slice_get (views_with views object view) object))
    ≡ record { begun = begun; views = views_with views object (option_map f view); own = own }
changed_view begun own views object view f has =
    ap (λ (o : Option View). with_view (record { begun = begun; views = views_with views object view; own = own })
    object (option_map f o)) (view_is views object view has)
    ∙ with_view_is begun own views object view f

-- one operation more, with its event
pub event_drafted : (views : List View) (d : Draft) (inv event resp : ℕ) → IsDraft views d
    → with_event (drafted views d) d.object inv event resp ≡ drafted views (event_draft d inv event resp)
event_drafted views d inv event resp has =
    ap (λ (t : Transaction). with_op t (op_of d.object inv (Some resp)))
    (changed_view d.begun (d.own ++ next_own (drafted [] d) d.object event ∷ []) views d.object d.view
    (λ (v : View). with_own v event) has)

granted_drafted : (views : List View) (d : Draft) (log : List Line) → IsDraft views d
    → with_granted (drafted views d) d.object log ≡ drafted views
    (record d { view = option_map (λ (v : View). with_log v log) d.view })
granted_drafted views d log has = changed_view d.begun d.own views d.object d.view (λ (v : View). with_log v log) has

-- the view's answer, its lines, and what an append carries

pub answer_drafted : (decl : Declaration) (views : List View) (d : Draft) (inv : ℕ) → IsDraft views d
    → answer_of decl (drafted views d) d.object inv ≡ answer_in_draft decl d inv
answer_drafted decl views d inv has =
    ap (λ (o : Option View). option_and_then
    (λ (rules : Rules). option_and_then (λ (v : View). answer_in rules v inv) o) (table_at decl d.object))
    (view_is views d.object d.view has)

pub want_drafted : (decl : Declaration) (views : List View) (d : Draft) (event : ℕ) → IsDraft views d
    → append_want decl (drafted views d) d.object event ≡ append_want_of decl d event
want_drafted decl views d event has =
    let want_by : Option View → ℕ → Want = λ o site.
    Append d.object (option_map_or (λ (v : View). v.log) o []) (own_appended decl (drafted [] d) d.object event) in
    ap want_by (view_is views d.object d.view has)

-- what came of a request to a site

pub read_drafted : (t : Transaction) (object site : ℕ) (answer : Option Answer)
    → drafted t.views (read_draft (draft_of t object) site answer) ≡ read_with t site object answer
read_drafted t object site None = undone t object
read_drafted t object site (Some (answers.Granted grant)) =
    sym (granted_drafted t.views (lived_draft (draft_of t object) site grant.life) grant.log refl)
    ∙ ap (λ (u : Transaction). with_granted (lived u site grant.life) object grant.log) (undone t object)
read_drafted t object site (Some (answers.Clash holder inv event)) = undone t object
read_drafted t object site (Some (answers.Closed epoch)) = undone t object
read_drafted t object site (Some (answers.Behind epoch)) = undone t object
read_drafted t object site (Some (answers.Restarted life)) = undone t object
read_drafted t object site (Some answers.Stale) = undone t object
read_drafted t object site (Some answers.Fault) = undone t object
read_drafted t object site (Some (answers.Yes clock)) = undone t object
read_drafted t object site (Some (answers.Shut snapshot)) = undone t object
read_drafted t object site (Some answers.Installed) = undone t object
read_drafted t object site (Some (answers.Answered verdict)) = undone t object

pub appended_drafted : (t : Transaction) (object site : ℕ) (answer : Option Answer)
    → drafted t.views (appended_draft (draft_of t object) site answer) ≡ appended_with t site answer
appended_drafted t object site None = undone t object
appended_drafted t object site (Some (answers.Granted grant)) =
    ap (λ (u : Transaction). lived u site grant.life) (undone t object)
appended_drafted t object site (Some (answers.Clash holder inv event)) = undone t object
appended_drafted t object site (Some (answers.Closed epoch)) = undone t object
appended_drafted t object site (Some (answers.Behind epoch)) = undone t object
appended_drafted t object site (Some (answers.Restarted life)) = undone t object
appended_drafted t object site (Some answers.Stale) = undone t object
appended_drafted t object site (Some answers.Fault) = undone t object
appended_drafted t object site (Some (answers.Yes clock)) = undone t object
appended_drafted t object site (Some (answers.Shut snapshot)) = undone t object
appended_drafted t object site (Some answers.Installed) = undone t object
appended_drafted t object site (Some (answers.Answered verdict)) = undone t object

-- such a draft has a view where its object is declared, and as many operations as the transaction

same_some : (o : Option View) (f : View → View) → is_some (option_map f o) ≡ is_some o
same_some None f = refl
same_some (Some v) f = refl

pub record IsDraftOf (t : Transaction) (object : ℕ) (d : Draft) : Type 0 where
  pub object_is : d.object ≡ object
  pub view : IsDraft t.views d
  pub ops : d.begun.ops ≡ t.begun.ops

pub read_is_draft : (t : Transaction) (object site : ℕ) (answer : Option Answer)
    → IsDraftOf t object (read_draft (draft_of t object) site answer)
read_is_draft t object site None = record { object_is = refl; view = refl; ops = refl }
read_is_draft t object site (Some (answers.Granted grant)) =
    record {
      object_is = refl;
      view = same_some (slice_get t.views object) (λ (v : View). with_log v grant.log);
      ops = refl;
    }
read_is_draft t object site (Some (answers.Clash holder inv event)) =
    record { object_is = refl; view = refl; ops = refl }
read_is_draft t object site (Some (answers.Closed epoch)) = record { object_is = refl; view = refl; ops = refl }
read_is_draft t object site (Some (answers.Behind epoch)) = record { object_is = refl; view = refl; ops = refl }
read_is_draft t object site (Some (answers.Restarted life)) = record { object_is = refl; view = refl; ops = refl }
read_is_draft t object site (Some answers.Stale) = record { object_is = refl; view = refl; ops = refl }
read_is_draft t object site (Some answers.Fault) = record { object_is = refl; view = refl; ops = refl }
read_is_draft t object site (Some (answers.Yes clock)) = record { object_is = refl; view = refl; ops = refl }
read_is_draft t object site (Some (answers.Shut snapshot)) =
    record { object_is = refl; view = refl; ops = refl }
read_is_draft t object site (Some answers.Installed) = record { object_is = refl; view = refl; ops = refl }
read_is_draft t object site (Some (answers.Answered verdict)) = record { object_is = refl; view = refl; ops = refl }

pub appended_is_draft : (t : Transaction) (object site : ℕ) (answer : Option Answer)
    → IsDraftOf t object (appended_draft (draft_of t object) site answer)
appended_is_draft t object site None = record { object_is = refl; view = refl; ops = refl }
appended_is_draft t object site (Some (answers.Granted grant)) =
    record { object_is = refl; view = refl; ops = refl }
appended_is_draft t object site (Some (answers.Clash holder inv event)) =
    record { object_is = refl; view = refl; ops = refl }
appended_is_draft t object site (Some (answers.Closed epoch)) = record { object_is = refl; view = refl; ops = refl }
appended_is_draft t object site (Some (answers.Behind epoch)) = record { object_is = refl; view = refl; ops = refl }
appended_is_draft t object site (Some (answers.Restarted life)) = record { object_is = refl; view = refl; ops = refl }
appended_is_draft t object site (Some answers.Stale) = record { object_is = refl; view = refl; ops = refl }
appended_is_draft t object site (Some answers.Fault) = record { object_is = refl; view = refl; ops = refl }
appended_is_draft t object site (Some (answers.Yes clock)) = record { object_is = refl; view = refl; ops = refl }
appended_is_draft t object site (Some (answers.Shut snapshot)) =
    record { object_is = refl; view = refl; ops = refl }
appended_is_draft t object site (Some answers.Installed) = record { object_is = refl; view = refl; ops = refl }
appended_is_draft t object site (Some (answers.Answered verdict)) = record { object_is = refl; view = refl; ops = refl }
