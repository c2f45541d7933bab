-- A site's step for a Close and for an Install.
use Rattle.std.proofs.Common.{◌≡◌, ℕ, ◌+◌, max, not, nat_le, nat_lt, Bool, true, false, cond, List, [], ◌∷◌, None, refl}
use Rattle.std.proofs.Common.{sym, ap, ◌∙◌}
use Rattle.std.specs.Prelude.{filter, fold}
use Rattle.std.proofs.lemmas.List.{append-nil}
use Rattle.qc_entry.specs.declared.line.Line.{Line}
use Rattle.qc_entry.specs.declared.record.Prepared.{Prepared}
use Rattle.qc_decl.specs.Vocabulary.{most_record_bytes}
use Rattle.qc_msg.specs.declared.message.Answer.{Answer}
use Rattle.qc_msg.specs.declared.message.Answer.TheVariants as answers
use Rattle.qc_msg.specs.declared.message.Message.TheVariants as messages
use Rattle.qc_msg.specs.declared.record.Record.TheVariants as records
use Rattle.qc_msg.specs.declared.step.Input.{Input}
use Rattle.qc_msg.specs.declared.turn.Turn.{Turn}
use Rattle.qc_msg.specs.Vocabulary.{Deed, epoch_length, start_with}
use Rattle.qc_promise.specs.Vocabulary.{all_arrived}
use Rattle.qc_promise.specs.Vocabulary.{Lines, learning, lines_shown, prepared_shown, recorded_by, records_in}
use Rattle.qc_promise.specs.Vocabulary.{with_promise}
use Rattle.qc_site.specs.Vocabulary.{SiteState, answering, answers as answered, closed, closes, installed, installs}
use Rattle.qc_site.specs.Vocabulary.{is_closed_for, moved, recording, shut_answer}
use Rattle.qc_core.proofs.SiteGrowth.{lasts}
use Rattle.qc_core.proofs.SitePosts.{post_frees}
use Rattle.qc_core.proofs.SiteRecorded.{posted, prepared_then}
use Rattle.qc_core.proofs.SiteShown.{grown, same_state, shown, shown-more}
use Rattle.qc_core.proofs.SiteSteps.{IsStep, letter, passed, still}
use Rattle.qc_core.proofs.SiteTalks.{clock_passes, filter_all}
use Rattle.qc_promise.proofs.Posts.{learning-nil}

filter_none : {A : Type 0} (f : A → Bool) → ((x : A) → f x ≡ false) → (xs : List A) → filter f xs ≡ []
filter_none f none [] = refl
filter_none {A = A} f none (x ∷ xs) = ap (λ (b : Bool). cond b (x ∷ filter f xs) (filter f xs)) (none x)
    ∙ filter_none f none xs

module _ (site : ℕ) (ds : List Deed) (n number from to : ℕ) where
  -- a Close

  module _ (k : ℕ) where
    abbrev closing : Input
    closing = letter number from to (messages.Close k)

    abbrev at_close : SiteState
    at_close = passed site ds (messages.Close k)

    told : (x : Answer) → IsStep site ds closing n (moved at_close (answered from number x))
    told x = still site ds n number from to (messages.Close k) (answering from number x ∷ []) None
        (λ t. refl, λ t. refl) refl refl

    writes_close : IsStep site ds closing n (moved (closed at_close k)
        (recording from number (records.Close k) (shut_answer (closed at_close k))))
    writes_close =
        sym (shown-more site ds closing n turn
        ∙ same_state (grown site ds closing n turn) (closed at_close k)
        refl refl refl refl refl
        (ap (λ (l : Lines). l.since) (learning-nil (learning (lines_shown ds) []) ∙ learning-nil (lines_shown ds)))
        (ap (λ (l : Lines). l.since) (learning-nil (recorded_by (records_in ds))))
        (append-nil _ ∙ append-nil (all_arrived ds))
        (ap (λ (v : List Prepared). fold with_promise [] v) all_last)
        all_last
        refl)
      where
        turn : Turn
        turn = recording from number (records.Close k) (shut_answer (closed at_close k))

        last : (p : Prepared) → lasts (posted ds closing n turn) p ≡ true
        last p = ap (λ (b : Bool). not b) (post_frees n turn p.tx)

        all_last : prepared_then ds closing n turn ≡ prepared_shown ds
        all_last = append-nil (filter (lasts (posted ds closing n turn)) (prepared_shown ds))
            ∙ filter_all (lasts (posted ds closing n turn)) last (prepared_shown ds)

    pub close : IsStep site ds closing n (closes at_close from number k)
    close = by (nat_lt (at_close.epoch + 1) k) (nat_le k at_close.epoch) (is_closed_for k at_close.closed_for)
      where
        by : (far past shut : Bool) → IsStep site ds closing n
            (cond far (moved at_close (answered from number (answers.Behind at_close.epoch)))
            (cond past (moved at_close (answered from number (answers.Closed at_close.epoch)))
            (cond shut (moved at_close (answered from number (shut_answer at_close)))
            (moved (closed at_close k) (recording from number (records.Close k)
            (shut_answer (closed at_close k)))))))
        by true past shut = told (answers.Behind at_close.epoch)
        by false true shut = told (answers.Closed at_close.epoch)
        by false false true = told (shut_answer at_close)
        by false false false = writes_close

  -- an Install

  module _ (k clock : ℕ) (lines : List Line) where
    abbrev installing : Input
    installing = letter number from to (messages.Install (start_with k clock lines))

    abbrev at_install : SiteState
    at_install = passed site ds (messages.Install (start_with k clock lines))

    answers_install : (x : Answer) → IsStep site ds installing n (moved at_install (answered from number x))
    answers_install x = still site ds n number from to (messages.Install (start_with k clock lines))
        (answering from number x ∷ []) None (λ t. refl, λ t. refl) refl refl

    writes_install : IsStep site ds installing n
        (moved (installed at_install k clock lines)
        (recording from number (records.Install (start_with k clock lines)) answers.Installed))
    writes_install =
        sym (shown-more site ds installing n turn
        ∙ same_state (grown site ds installing n turn) (installed at_install k clock lines)
        refl refl refl refl refl refl refl refl
        (ap (λ (v : List Prepared). fold with_promise [] v) none_last)
        none_last
        (ap (λ (c : ℕ). max c clock)
        (clock_passes (shown site ds).clock (messages.Install (start_with k clock lines)))))
      where
        turn : Turn
        turn = recording from number (records.Install (start_with k clock lines)) answers.Installed

        freed : (p : Prepared) → lasts (posted ds installing n turn) p ≡ false
        freed p = ap (λ (b : Bool). not b) (post_frees n turn p.tx)

        none_last : prepared_then ds installing n turn ≡ []
        none_last = append-nil (filter (lasts (posted ds installing n turn)) (prepared_shown ds))
            ∙ filter_none (lasts (posted ds installing n turn)) freed (prepared_shown ds)

    pub install : IsStep site ds installing n (installs at_install from number k clock lines)
    install = by (nat_le k at_install.epoch) (nat_le (epoch_length lines) most_record_bytes)
      where
        by : (past short : Bool) → IsStep site ds installing n
            (cond past (moved at_install (answered from number answers.Installed))
            (cond short (moved (installed at_install k clock lines)
            (recording from number (records.Install (start_with k clock lines)) answers.Installed))
            (moved at_install (answered from number (answers.Behind at_install.epoch)))))
        by true short = answers_install answers.Installed
        by false true = writes_install
        by false false = answers_install (answers.Behind at_install.epoch)
