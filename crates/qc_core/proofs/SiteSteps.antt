-- A site's step: what it becomes for an input is what its deeds show once its turn is posted. Here for requests.
use Rattle.std.proofs.Common.{◌≡◌, ℕ, ◌==◌, ◌&&◌, ◌||◌, Bool, true, false, cond, List, [], ◌∷◌, ◌++◌, Option, None}
use Rattle.std.proofs.Common.{is_some, refl, sym, ap, ◌∙◌, eq-eqb}
use Rattle.qc_stamp.specs.declared.stamp.TxId.{TxId}
use Rattle.std.proofs.lemmas.List.{append-nil}
use Rattle.qc_entry.specs.declared.line.Line.{Line}
use Rattle.qc_entry.specs.declared.line.OwnLine.{OwnLine}
use Rattle.qc_decl.specs.declared.declaration.Declaration.{Declaration}
use Rattle.qc_lock.specs.declared.clash.Clash.{Clash as Conflict}
use Rattle.qc_msg.specs.declared.message.Answer.{Answer}
use Rattle.qc_msg.specs.declared.message.Answer.TheVariants as answers
use Rattle.qc_msg.specs.declared.message.Message.{Message}
use Rattle.qc_msg.specs.declared.message.Message.TheVariants as messages
use Rattle.qc_msg.specs.declared.message.Want.{Want}
use Rattle.qc_msg.specs.declared.message.Want.TheVariants.{Read, Append}
use Rattle.qc_msg.specs.declared.reply.Reply.{Reply}
use Rattle.qc_msg.specs.declared.step.Input.{Input}
use Rattle.qc_msg.specs.declared.step.Input.TheVariants as inputs
use Rattle.qc_msg.specs.declared.turn.Posting.{Posting}
use Rattle.qc_msg.specs.Vocabulary.{Deed, Takes, granted_in, quiet, says, turn_deeds, append_grant}
use Rattle.qc_msg.specs.declared.payload.Grant.{Grant}
use Rattle.qc_msg.specs.declared.payload.ReadRequest.{ReadRequest}
use Rattle.qc_promise.specs.Vocabulary.{all_arrived, lines_shown, view_in}
use Rattle.qc_site.specs.Vocabulary.{SiteMove, SiteState, answering, answers as answered, appends, clashing}
use Rattle.qc_site.specs.Vocabulary.{arriving, clock_after, grant_told, learned, moved, reads}
use Rattle.qc_core.proofs.SiteHolds.{hold, standing_given}
use Rattle.qc_core.proofs.SiteLines.{view_given}
use Rattle.qc_core.proofs.SiteShown.{shown, shown-more}
use Rattle.qc_core.proofs.SiteTalks.{DecidesNothing, clock_passes, stands_still, talks}
use Rattle.qc_list.proofs.Booleans.{and_false}
use Rattle.qc_promise.proofs.Posts.{learning-nil}

abbrev pub letter : ℕ → ℕ → ℕ → Message → Input
letter number from to m = inputs.Got (record { number = number; from = from; to = to; message = m })

-- the move's site is what the deeds show once its turn is posted
abbrev pub IsStep : ℕ → List Deed → Input → ℕ → SiteMove → Type 0
IsStep site ds g n move = move.site ≡ shown site (ds ++ Takes g ∷ turn_deeds n move.turn)

-- the state that the deeds show, the clock passed by a message
abbrev pub passed : ℕ → List Deed → Message → SiteState
passed site ds m = record (shown site ds) { clock = clock_after (shown site ds).clock m }

module _ (site : ℕ) (ds : List Deed) (n number from to : ℕ) where
  -- a message that decides nothing and is granted nothing
  pub still : (m : Message) (sends : List Posting) (told : Option Reply) → DecidesNothing (letter number from to m)
      → standing_given (letter number from to m) (turn_deeds n (says sends told)) ≡ []
      → view_given (letter number from to m) (turn_deeds n (says sends told)) ≡ []
      → IsStep site ds (letter number from to m) n (moved (passed site ds m) (says sends told))
  still m sends told nothing stand joins =
      sym (shown-more site ds (letter number from to m) n (says sends told)
      ∙ stands_still site ds (letter number from to m) n sends told nothing stand joins
      ∙ ap (λ (c : ℕ). record (shown site ds) { clock = c }) (clock_passes (shown site ds).clock m))

  module _ (tx : TxId) (epoch life : ℕ) where
    abbrev pub asked : Want → Message
    asked want = messages.Request tx epoch life want

    abbrev pub asking : Want → Input
    asking want = letter number from to (asked want)

    nothing : (want : Want) → DecidesNothing (asking want)
    nothing want = (λ t. refl, λ t. refl)

    -- an answer that grants nothing

    ungranted : (want : Want) (x : Answer) → is_some (granted_in x) ≡ false
        → standing_given (asking want) (turn_deeds n (answered from number x)) ≡ []
    ungranted want x never = ap (λ (b : Bool). cond (((number == number) && b || false) && true)
        (record { tx = tx; want = want } ∷ []) []) never
        ∙ ap (λ (b : Bool). cond ((b || false) && true) (record { tx = tx; want = want } ∷ []) [])
        (and_false (number == number))

    unviewed : (want : Want) (x : Answer) → is_some (granted_in x) ≡ false
        → view_given (asking want) (turn_deeds n (answered from number x)) ≡ []
    unviewed want x never = ap (λ (b : Bool). cond ((number == number) && b || false) (view_in want) []) never
        ∙ ap (λ (b : Bool). cond (b || false) (view_in want) []) (and_false (number == number))

    pub refused : (want : Want) (x : Answer) → is_some (granted_in x) ≡ false
        → IsStep site ds (asking want) n (moved (passed site ds (asked want)) (answered from number x))
    refused want x never = still (asked want) (answering from number x ∷ []) None (nothing want)
        (ungranted want x never) (unviewed want x never)

    pub ignored : (want : Want) → IsStep site ds (asking want) n (moved (passed site ds (asked want)) quiet)
    ignored want = still (asked want) [] None (nothing want) refl refl

    pub clashes : (decl : Declaration) (want : Want) (c : Conflict)
        → IsStep site ds (asking want) n (moved (passed site ds (asked want)) (clashing decl from number c))
    clashes decl want c = still (asked want) (clashing decl from number c).sends None (nothing want)
        (ap (λ (b : Bool). cond ((b || false) && true) (record { tx = tx; want = want } ∷ []) [])
        (and_false (number == number)))
        (ap (λ (b : Bool). cond (b || false) (view_in want) []) (and_false (number == number)))

    -- a grant

    pub granted : (want : Want) (x : Grant) (r : SiteState)
        → r ≡ record (passed site ds (asked want)) {
          log = learned (shown site ds) (view_in want);
          arrived = arriving (shown site ds) (view_in want);
          held = hold (shown site ds).held (record { tx = tx; want = want });
        }
        → IsStep site ds (asking want) n (moved r (answered from number (answers.Granted x)))
    granted want x r is =
        is ∙ sym (shown-more site ds (asking want) n (answered from number (answers.Granted x))
        ∙ talks site ds (asking want) n (answering from number (answers.Granted x) ∷ []) None
        (nothing want)
        (record { tx = tx; want = want } ∷ []) (view_in want)
        (ap (λ (b : Bool). cond ((b && true || false) && true) (record { tx = tx; want = want } ∷ []) [])
        (eq-eqb number number refl))
        (ap (λ (b : Bool). cond (b && true || false) (view_in want) []) (eq-eqb number number refl))
        ∙ ap (λ (v : ℕ). record (shown site ds) {
          log = learned (shown site ds) (view_in want);
          arrived = arriving (shown site ds) (view_in want);
          held = hold (shown site ds).held (record { tx = tx; want = want });
          clock = v;
        })
        (clock_passes (shown site ds).clock (asked want)))

    pub read : (r : ReadRequest) → IsStep site ds (asking (Read r)) n
        (reads (passed site ds (asked (Read r))) from number tx r)
    read r =
        granted (Read r) (grant_told (shown site ds) r) (reads (passed site ds (asked (Read r))) from number tx r).site
        (sym (λ i. record (shown site ds) {
          log = (learning-nil (lines_shown ds) i).since;
          arrived = append-nil (all_arrived ds) i;
          held = hold (shown site ds).held (record { tx = tx; want = Read r });
        }))

    pub append : (object : ℕ) (view : List Line) (own : List OwnLine)
        → IsStep site ds (asking (Append object view own)) n
        (appends (passed site ds (asked (Append object view own))) from number tx view own)
    append object view own = granted (Append object view own)
        (append_grant (shown site ds).life (passed site ds (asked (Append object view own))).clock)
        (appends (passed site ds (asked (Append object view own))) from number tx view own).site refl
