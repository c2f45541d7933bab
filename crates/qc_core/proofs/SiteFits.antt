-- A turn that is the one that is due: its post is one of those, whatever becomes of its record.
use Rattle.std.proofs.Common.{◌≡◌, ℕ, List, [], ◌∷◌, ◌++◌, Option, Some, None, refl, sym, ap, ◌∙◌, subst}
use Rattle.std.specs.Prelude.{map, option_to_list}
use Rattle.std.proofs.lemmas.List.{append-nil}
use Rattle.qc_msg.specs.declared.record.Record.{Record}
use Rattle.qc_msg.specs.declared.reply.Reply.{Reply}
use Rattle.qc_msg.specs.declared.step.Fall.{Fall}
use Rattle.qc_msg.specs.declared.step.Fall.TheVariants as causes
use Rattle.qc_msg.specs.declared.turn.Appended.{Appended}
use Rattle.qc_msg.specs.declared.turn.Appended.TheVariants.{Done, Failed, Stopped}
use Rattle.qc_msg.specs.Vocabulary.{Falls, HasRecord, MayEnd, deeds_as, tells_of, turn_deeds}
use Rattle.qc_msg.specs.declared.turn.Turn.{Turn}
use Rattle.qc_promise.specs.Vocabulary.{Act, Fell, IsPostOf, Sent, TurnDue, Wrote, ends_with, fallen_in, posted_due}
use Rattle.qc_promise.specs.Vocabulary.{posted_next}
use Rattle.qc_promise.proofs.Posts.{fallen_none, fallen_sent, posted_sends}
use Rattle.qc_core.proofs.SitePosts.{post_acts, told_of}

-- the conduct's turn is the one that is due: the same record and messages, and nothing is told

abbrev pub as_due : Turn → TurnDue
as_due turn = record { write = turn.write; sends = turn.sends; failed_sends = turn.failed_sends }

pub record Does (turn : Turn) (due : TurnDue) : Type 0 where
  pub same : as_due turn ≡ due
  pub untold : turn.told ≡ None
  pub failed_untold : turn.failed_told ≡ None

-- so its post is one of those, whatever becomes of its record

abbrev pub IsFit : TurnDue → List Act → Type 0
IsFit t acts = acts ≡ posted_due t (fallen_in acts)

written_post : (n : ℕ) (turn : Turn) → turn.told ≡ None → IsFit (as_due turn) (posted_next (turn_deeds n turn))
written_post n turn untold = subst (IsFit (as_due turn)) (sym posted) (by turn.write)
  where
    posted : posted_next (turn_deeds n turn) ≡ map Wrote (option_to_list turn.write) ++ map Sent turn.sends
    posted =
        post_acts n turn
        ∙ ap (λ (o : Option Reply). map Wrote (option_to_list turn.write) ++ (map Sent turn.sends ++ told_of o)) untold
        ∙ ap (λ (v : List Act). map Wrote (option_to_list turn.write) ++ v) (append-nil (map Sent turn.sends))

    by : (w : Option Record) → map Wrote (option_to_list w) ++ map Sent turn.sends
        ≡ posted_due (record { write = w; sends = turn.sends; failed_sends = turn.failed_sends })
        (fallen_in (map Wrote (option_to_list w) ++ map Sent turn.sends))
    by None = refl
    by (Some w) = sym (ap (λ (o : Option Fall). ends_with
        (record { write = Some w; sends = turn.sends; failed_sends = turn.failed_sends }) w o) (fallen_none turn.sends))

failed_post : (n : ℕ) (turn : Turn) → turn.failed_told ≡ None → HasRecord turn.write
    → IsFit (as_due turn) (posted_next (deeds_as Failed n turn))
failed_post n turn untold has = subst (IsFit (as_due turn)) (sym posted) (by turn.write has)
  where
    posted : posted_next (deeds_as Failed n turn) ≡ map Sent turn.failed_sends ++ Fell causes.Disk turn.write ∷ []
    posted =
        posted_sends n turn.failed_sends (tells_of turn.failed_told ++ Falls causes.Disk turn.write ∷ [])
        ∙ ap (λ (o : Option Reply). map Sent turn.failed_sends ++ posted_next
        (tells_of o ++ Falls causes.Disk turn.write ∷ [])) untold

    by : (w : Option Record) → HasRecord w → IsFit
        (record { write = w; sends = turn.sends; failed_sends = turn.failed_sends })
        (map Sent turn.failed_sends ++ Fell causes.Disk w ∷ [])
    by None has = absurd has
    by (Some w) has = sym (ap (λ (o : Option Fall). ends_with
        (record { write = Some w; sends = turn.sends; failed_sends = turn.failed_sends }) w o)
        (fallen_sent turn.failed_sends (Fell causes.Disk (Some w) ∷ [])))

stopped_post : (n : ℕ) (turn : Turn) → turn.failed_told ≡ None → HasRecord turn.write
    → IsFit (as_due turn) (posted_next (deeds_as Stopped n turn))
stopped_post n turn untold has = subst (IsFit (as_due turn)) (sym posted) (by turn.write has)
  where
    posted : posted_next (deeds_as Stopped n turn) ≡ Fell causes.Stop turn.write ∷ []
    posted = ap (λ (o : Option Reply). posted_next (tells_of o ++ Falls causes.Stop turn.write ∷ [])) untold

    by : (w : Option Record) → HasRecord w → IsFit
        (record { write = w; sends = turn.sends; failed_sends = turn.failed_sends }) (Fell causes.Stop w ∷ [])
    by None has = absurd has
    by (Some w) has = refl

pub post_fits : (end : Appended) (n : ℕ) (turn : Turn) (due : TurnDue) → Does turn due → MayEnd turn.write end
    → IsPostOf due (deeds_as end n turn)
post_fits Done n turn due does may = subst (λ (t : TurnDue). IsFit t (posted_next (deeds_as Done n turn))) does.same
    (written_post n turn does.untold)
post_fits Failed n turn due does may = subst (λ (t : TurnDue). IsFit t (posted_next (deeds_as Failed n turn))) does.same
    (failed_post n turn does.failed_untold may)
post_fits Stopped n turn due does may = subst
    (λ (t : TurnDue). IsFit t (posted_next (deeds_as Stopped n turn))) does.same
    (stopped_post n turn does.failed_untold may)
