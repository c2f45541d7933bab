-- A transaction as it is to become: what a `do` on one object changes of it.
use Rattle.std.specs.Prelude.{[], ◌≡◌, ℕ, true, List, ◌∷◌, ◌++◌, fold, map, slice_get, slice_set, is_some, Option, Some}
use Rattle.std.specs.Prelude.{None, option_and_then, option_map}
use Rattle.std.specs.Option.{option_map_or}
use Rattle.qc_decl.specs.declared.declaration.Declaration.{Declaration}
use Rattle.qc_decl.specs.Vocabulary.{table_at}
use Rattle.qc_entry.specs.declared.line.Line.{Line}
use Rattle.qc_entry.specs.declared.line.Op.{Op}
use Rattle.qc_msg.specs.declared.call.Call.{Call}
use Rattle.qc_msg.specs.declared.message.Answer.{Answer}
use Rattle.qc_msg.specs.declared.message.Want.{Want}
use Rattle.qc_msg.specs.declared.message.Want.TheVariants.{Append}
use Rattle.qc_msg.specs.Vocabulary.{quiet, sending, site_called, with_life, with_site, without_call}
use Rattle.qc_msg.specs.declared.payload.Grant.{Grant}
use Rattle.qc_msg.specs.Vocabulary.{granted_in}
use Rattle.qc_view.specs.declared.view.View.{View}
use Rattle.qc_table.specs.Vocabulary.{Rules}
use Rattle.qc_view.specs.Vocabulary.{answer_in, with_log, with_own}
use Rattle.qc_plan.specs.Vocabulary.{RoundState, asking_all, note, wanted}
use Rattle.qc_front.specs.declared.counting.Noted.{Noted}
use Rattle.qc_front.specs.declared.doing.Doing.{Doing}
use Rattle.qc_front.specs.declared.draft.Draft.{Draft}
use Rattle.qc_front.specs.declared.front.Front.{Front}
use Rattle.qc_front.specs.declared.next.Next.{Next}
use Rattle.qc_front.specs.declared.transaction.Transaction.{Transaction}
use Rattle.qc_front.specs.Answering.{next_own, op_of}
use Rattle.qc_front.specs.Appending.{own_appended, request_of}
use Rattle.qc_front.specs.Counting.{learns, standing_of}
use Rattle.qc_front.specs.Front.{FrontMove, moved, turned}

-- the transaction as it is, for a `do` on an object
abbrev pub draft_of : Transaction → ℕ → Draft
draft_of t object = record { object = object; begun = t.begun; own = t.own; view = slice_get t.views object }

-- the views, where that of one object is another one
abbrev pub views_with : List View → ℕ → Option View → List View
views_with views object None = views
views_with views object (Some v) = slice_set views object v

-- the transaction that a draft becomes, with these views
abbrev pub drafted : List View → Draft → Transaction
drafted views d = record { begun = d.begun; views = views_with views d.object d.view; own = d.own }

-- a draft of a transaction with these views has a view just where its object is declared
abbrev pub IsDraft : List View → Draft → Type 0
IsDraft views d = is_some d.view ≡ is_some (slice_get views d.object)

-- what becomes of a draft, as of a transaction

abbrev pub lived_draft : Draft → ℕ → ℕ → Draft
lived_draft d site life = record d { begun = record d.begun { lives = with_life d.begun.lives site life } }

abbrev pub granted_draft : Draft → List Line → Draft
granted_draft d log = record d { view = option_map (λ (v : View). with_log v log) d.view }

abbrev pub op_draft : Draft → Op → Draft
op_draft d op = record d { begun = record d.begun { ops = d.begun.ops ++ op ∷ [] } }

abbrev pub event_draft : Draft → ℕ → ℕ → ℕ → Draft
event_draft d inv event resp =
    op_draft
    (record d {
      own = d.own ++ next_own (drafted [] d) d.object event ∷ [];
      view = option_map (λ (v : View). with_own v event) d.view;
    })
    (op_of d.object inv (Some resp))

abbrev pub asked_draft : Draft → List ℕ → Draft
asked_draft d sites = record d { begun = record d.begun { asked = fold with_site d.begun.asked sites } }

abbrev pub doomed_draft : Draft → Draft
doomed_draft d = record d { begun = record d.begun { doomed = true } }

-- the draft after what came of a request to a site

abbrev pub read_draft : Draft → ℕ → Option Answer → Draft
read_draft d site answer =
    option_map_or (λ (g : Grant). granted_draft (lived_draft d site g.life) g.log)
    (option_and_then granted_in answer) d

abbrev pub appended_draft : Draft → ℕ → Option Answer → Draft
appended_draft d site answer =
    option_map_or (λ (g : Grant). lived_draft d site g.life) (option_and_then granted_in answer) d

-- the view's answer, and its lines

abbrev pub answer_in_draft : Declaration → Draft → ℕ → Option ℕ
answer_in_draft decl d inv =
    option_and_then (λ (rules : Rules). option_and_then (λ (v : View). answer_in rules v inv) d.view)
    (table_at decl d.object)

abbrev pub log_in_draft : Draft → List Line
log_in_draft d = option_map_or (λ (v : View). v.log) d.view []

-- what an append of an event carries to a site
abbrev pub append_want_of : Declaration → Draft → ℕ → ℕ → Want
append_want_of decl d event site = Append d.object (log_in_draft d) (own_appended decl (drafted [] d) d.object event)

-- all sites that the round wants are asked at once, and the round goes on
abbrev pub asking : Draft → (RoundState → Doing) → (ℕ → Want) → RoundState → Next
asking d doing want round =
    let sites : List ℕ = wanted round in
    record {
      draft = asked_draft d sites;
      doing = doing (asking_all round sites);
      turn = sending (map (request_of d.begun want) sites);
    }

-- the round after what came of the request of a number, where that is open

abbrev pub noted_at : List Call → RoundState → ℕ → Option Answer → ℕ → Noted
noted_at calls round number answer site =
    record { site = site; calls = without_call calls number; round = note round site (standing_of answer) }

abbrev pub noted : List Call → RoundState → ℕ → Option Answer → Option Noted
noted calls round number answer = option_map (noted_at calls round number answer) (site_called calls number)

-- the front end once it becomes what was drafted, and its turn

abbrev pub views_of : Option Transaction → List View
views_of None = []
views_of (Some t) = t.views

abbrev pub becomes : Front → Next → FrontMove
becomes front next =
    moved (turned front (Some (drafted (views_of front.transaction) next.draft)) next.doing) next.turn

-- the front end once something came of its request: it learns what it became with it, or put it aside
abbrev pub went : Front → Option Next → Option Answer → FrontMove
went front None answer = moved front quiet
went front (Some next) answer = moved (learns (becomes front next).front answer) next.turn
