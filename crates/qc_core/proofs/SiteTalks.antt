-- What a site becomes, where its turn writes no record, or a promise.
use Rattle.std.proofs.Common.{◌≡◌, ℕ, ◌||◌, not, max, Bool, true, false, cond, List, [], ◌∷◌, ◌++◌, Option, refl, ap}
use Rattle.std.proofs.Common.{◌∙◌}
use Rattle.std.specs.Prelude.{filter, fold}
use Rattle.std.proofs.lemmas.List.{append-nil}
use Rattle.qc_stamp.specs.declared.stamp.TxId.{TxId}
use Rattle.qc_entry.specs.declared.line.Line.{Line}
use Rattle.qc_entry.specs.declared.record.Prepared.{Prepared}
use Rattle.qc_msg.specs.declared.message.Message.{Message}
use Rattle.qc_msg.specs.declared.message.Message.TheVariants as messages
use Rattle.qc_msg.specs.declared.message.Outcome.TheVariants.{Committed, Aborted, Active}
use Rattle.qc_msg.specs.declared.message.Want.TheVariants.{Read, Append, Prepare}
use Rattle.qc_msg.specs.declared.reply.Reply.{Reply}
use Rattle.qc_msg.specs.declared.step.Input.{Input}
use Rattle.qc_msg.specs.declared.turn.Posting.{Posting}
use Rattle.qc_msg.specs.declared.turn.Turn.{Turn}
use Rattle.qc_msg.specs.Vocabulary.{Deed, Takes, says, turn_deeds}
use Rattle.qc_promise.specs.Vocabulary.{Grant, clock_shown, clocks_in, clocks_of, held_shown, is_aborted}
use Rattle.qc_promise.specs.Vocabulary.{is_decision, is_ended, is_final, is_over, last_cut, learning, lines_shown}
use Rattle.qc_promise.specs.Vocabulary.{all_arrived, prepared_shown, standing, unknown, with_promise}
use Rattle.qc_site.specs.Vocabulary.{clock_after, latest}
use Rattle.qc_core.proofs.SiteGrowth.{lasts, stays}
use Rattle.qc_core.proofs.SiteHolds.{hold, held_on, remaining, remains, standing_given}
use Rattle.qc_core.proofs.SiteLines.{view_given}
use Rattle.qc_core.proofs.SitePosts.{post_ends, post_frees}
use Rattle.qc_core.proofs.SiteRecorded.{clocks_given}
use Rattle.qc_core.proofs.SiteShown.{grown, same_state, shown}
use Rattle.qc_promise.proofs.Posts.{learning-nil}

pub filter_all : {A : Type 0} (f : A → Bool) → ((x : A) → f x ≡ true) → (xs : List A) → filter f xs ≡ xs
filter_all f all [] = refl
filter_all {A = A} f all (x ∷ xs) = ap (λ (b : Bool). cond b (x ∷ filter f xs) (filter f xs)) (all x)
    ∙ ap (λ (v : List A). x ∷ v) (filter_all f all xs)

-- nothing is decided by an input
abbrev pub DecidesNothing : Input → Type 0
DecidesNothing g = ((tx : TxId) → is_decision is_final tx (Takes g) ≡ false)
    × ((tx : TxId) → is_decision is_aborted tx (Takes g) ≡ false)

module _ (ds : List Deed) (g : Input) (n : ℕ) (turn : Turn) (still : DecidesNothing g) where
  abbrev done : List Deed
  done = Takes g ∷ turn_deeds n turn

  none_ends : (tx : TxId) → is_ended tx done ≡ false
  none_ends tx = ap (λ (b : Bool). b || is_ended tx (turn_deeds n turn)) (still.0 tx) ∙ post_ends n turn tx

  all_stand : filter (stays done) (standing (last_cut ds).since) ≡ standing (last_cut ds).since
  all_stand = filter_all (stays done) (λ (r : Grant). ap (λ (b : Bool). not b) (none_ends r.tx))
      (standing (last_cut ds).since)

  all_remain : filter (remains done) (remaining (last_cut ds)) ≡ remaining (last_cut ds)
  all_remain = filter_all (remains done) (λ (p : Prepared). ap (λ (b : Bool). not b) (none_ends p.tx))
      (remaining (last_cut ds))

  pub stays_held : (gs : List Grant) → standing_given g (turn_deeds n turn) ≡ gs
      → held_on ds g n turn ≡ fold hold (held_shown ds) gs
  stays_held gs is =
      ap (λ (v : List Prepared). fold hold (fold hold (fold with_promise [] v)
      (filter (stays done) (standing (last_cut ds).since))) (standing_given g (turn_deeds n turn))) all_remain
      ∙ ap (λ (v : List Grant). fold hold (fold hold (fold with_promise [] (remaining (last_cut ds))) v)
      (standing_given g (turn_deeds n turn))) all_stand
      ∙ ap (λ (v : List Grant). fold hold (held_shown ds) v) is

-- a turn without a record
module _ (site : ℕ) (ds : List Deed) (g : Input) (n : ℕ) (sends : List Posting) (told : Option Reply)
    (still : DecidesNothing g) where
  pub talks : (gs : List Grant) (view : List Line) → standing_given g (turn_deeds n (says sends told)) ≡ gs
      → view_given g (turn_deeds n (says sends told)) ≡ view
      → grown site ds g n (says sends told) ≡ record
      (shown site ds) {
        log = (learning (lines_shown ds) view).since;
        arrived = all_arrived ds ++ unknown (lines_shown ds) view;
        held = fold hold (held_shown ds) gs;
        clock = fold max (clock_shown ds) (clocks_given g);
      }
  talks gs view stand joins =
      same_state (grown site ds g n (says sends told))
      (record (shown site ds) {
        log = (learning (lines_shown ds) view).since;
        arrived = all_arrived ds ++ unknown (lines_shown ds) view;
        held = fold hold (held_shown ds) gs;
        clock = fold max (clock_shown ds) (clocks_given g);
      })
      refl refl refl refl refl
      (ap (λ (v : List Line). (learning (lines_shown ds) v).since) joins)
      refl
      (ap (λ (v : List Line). all_arrived ds ++ unknown (lines_shown ds) v) joins)
      (stays_held ds g n (says sends told) still gs stand)
      (append-nil (filter (lasts (Takes g ∷ turn_deeds n (says sends told))) (prepared_shown ds))
      ∙ filter_all (lasts (Takes g ∷ turn_deeds n (says sends told))) last (prepared_shown ds))
      refl
    where
      last : (p : Prepared) → lasts (Takes g ∷ turn_deeds n (says sends told)) p ≡ true
      last p =
          ap (λ (b : Bool). not (b || is_over p.tx (turn_deeds n (says sends told)))) (still.1 p.tx)
          ∙ ap (λ (b : Bool). not b) (post_frees n (says sends told) p.tx)

  -- nothing is granted
  pub stands_still : standing_given g (turn_deeds n (says sends told)) ≡ []
      → view_given g (turn_deeds n (says sends told)) ≡ []
      → grown site ds g n (says sends told) ≡ record
      (shown site ds) { clock = fold max (clock_shown ds) (clocks_given g) }
  stands_still stand joins = talks [] [] stand joins
      ∙ (λ i. record (shown site ds) {
        log = (learning-nil (lines_shown ds) i).since;
        arrived = append-nil (all_arrived ds) i;
        clock = fold max (clock_shown ds) (clocks_given g);
      })

-- the clock

lines_pass : (clock : ℕ) (lines : List Line) → fold max clock (clocks_of lines) ≡ latest clock lines
lines_pass clock [] = refl
lines_pass clock (l ∷ lines) = lines_pass (max clock l.stamp.clock) lines

pub clock_passes : (clock : ℕ) (m : Message) → fold max clock (clocks_in m) ≡ clock_after clock m
clock_passes clock (messages.Request tx epoch life (Read read)) = refl
clock_passes clock (messages.Request tx epoch life (Append object view own)) = lines_pass clock view
clock_passes clock (messages.Request tx epoch life Prepare) = refl
clock_passes clock (messages.Answer to answer) = refl
clock_passes clock (messages.Decision tx (Committed stamp)) = refl
clock_passes clock (messages.Decision tx Aborted) = refl
clock_passes clock (messages.Decision tx Active) = refl
clock_passes clock (messages.Inquiry tx) = refl
clock_passes clock (messages.Ask tx) = refl
clock_passes clock (messages.Close epoch) = refl
clock_passes clock (messages.Install start) = lines_pass clock start.lines
