-- What an actor answers it was asked for by what it took last, whatever became of its record; as it rises it answers
-- nothing.
use Rattle.std.proofs.Common.{◌≡◌, ℕ, ◌-◌, Bool, true, false, cond, List, [], ◌∷◌, ◌++◌, map, take, refl, sym, ap, ◌∙◌}
use Rattle.std.proofs.Common.{subst}
use Rattle.std.specs.List.{AllByRecursion as Every}
use Rattle.qc_decl.specs.declared.declaration.Declaration.{Declaration}
use Rattle.qc_decl.specs.Vocabulary.{is_client, is_site}
use Rattle.qc_msg.specs.declared.record.Record.{Record}
use Rattle.qc_msg.specs.declared.step.Input.{Input}
use Rattle.qc_msg.specs.declared.step.Input.TheVariants as inputs
use Rattle.qc_msg.specs.declared.turn.Appended.{Appended}
use Rattle.qc_msg.specs.declared.turn.Appended.TheVariants.{Done, Failed, Stopped}
use Rattle.qc_msg.specs.declared.turn.Posting.{Posting}
use Rattle.qc_msg.specs.declared.turn.Turn.{Turn}
use Rattle.qc_msg.specs.Vocabulary.{Deed, Rises, Takes, sends_as}
use Rattle.qc_recover.specs.Vocabulary.{admin_rises, client_rises, inquiry, kept_by, most_inquiries, site_rises}
use Rattle.qc_site.specs.Vocabulary.{in_order}
use Rattle.qc_stamp.specs.declared.stamp.TxId.{TxId}
use Rattle.qc_entry.specs.declared.record.Prepared.{Prepared}
use Rattle.qc_core.specs.declared.actor.Actor.{Actor}
use Rattle.qc_core.specs.declared.actor.Actor.TheVariants as actor
use Rattle.qc_core.specs.Vocabulary.{ActorMove, IsLawfulWithFalls, actor_after, actor_rises, actor_takes, by_admin}
use Rattle.qc_core.specs.Vocabulary.{by_client, by_site, with_record}
use Rattle.qc_core.proofs.PostsByTurns.{called_turn}
use Rattle.qc_core.proofs.LivesOfActors.{rises}
use Rattle.qc_core.proofs.FrontWrites.{NoAnswer}
use Rattle.qc_core.proofs.SiteWrites.{IsAnswerTo, IsSiteTurn, site_written}
use Rattle.qc_core.proofs.AdminTurns.{no_answers}
use Rattle.qc_core.proofs.AdminWrites.{admin_written}
use Rattle.qc_core.proofs.Written.{client_answers, client_written, none_answers}
use Rattle.qc_core.proofs.ActorLaws.{input}

record Answering (P : Posting → Type 0) (t : Turn) : Type 0 where
  sends : Every P t.sends
  failed_sends : Every P t.failed_sends

abbrev Sent : (Posting → Type 0) → Turn → Type 0
Sent P t = Every P (sends_as t.append t)

posted_answers : (P : Posting → Type 0) (end : Appended) (t : Turn) → Answering P t → Every P (sends_as end t)
posted_answers P Done t are = are.sends
posted_answers P Failed t are = are.failed_sends
posted_answers P Stopped t are = tt

-- a turn but for what became of its record
with_any : (P : Posting → Type 0) (t : Turn) → Answering P (with_record t) → Sent P t
with_any P t are = posted_answers P t.append t (record { sends = are.sends; failed_sends = are.failed_sends })

nothing_sent : (P : Posting → Type 0) (ps : List Posting) → ps ≡ [] → Every P ps
nothing_sent P ps none = subst (Every P) (sym none) tt

takes_answer : (decl : Declaration) (v : Actor) (g : Input) → Answering (IsAnswerTo g) (actor_takes decl v g).turn
takes_answer decl (actor.Site s) g = let well : IsSiteTurn g _ = site_written decl s g in
    record { sends = well.sends; failed_sends = well.failed_sends }
takes_answer decl (actor.Client c) g = record {
  sends = client_answers decl c g;
  failed_sends =
      nothing_sent (IsAnswerTo g) _ (client_written decl c g).failed_sends;
}
takes_answer decl (actor.Admin m) g = record {
  sends = none_answers g _ (no_answers _ (admin_written decl m g).sends);
  failed_sends = nothing_sent (IsAnswerTo g) _ (admin_written decl m g).failed_sends;
}
takes_answer decl actor.Down (inputs.Called command) = record { sends = tt; failed_sends = tt }
takes_answer decl actor.Down (inputs.Got e) = record { sends = tt; failed_sends = tt }
takes_answer decl actor.Down (inputs.Lost number) = record { sends = tt; failed_sends = tt }

pub answers_taken : (decl : Declaration) (a : ℕ) (before : List Deed) (g : Input) (turn : Turn)
    → IsLawfulWithFalls decl a (before ++ Takes g ∷ []) turn → Every (IsAnswerTo g) (sends_as turn.append turn)
answers_taken decl a before g turn lawful =
    with_any (IsAnswerTo g) turn
    (subst (Answering (IsAnswerTo g)) (ap (λ (m : ActorMove). m.turn) (sym (input decl a before g))
    ∙ called_turn decl a (before ++ Takes g ∷ []) turn lawful)
    (takes_answer decl (actor_after decl a before).actor g))

-- as it rises

inquiries_ask : (decl : Declaration) (txs : List TxId) → Every NoAnswer (map (inquiry decl) txs)
inquiries_ask decl [] = tt
inquiries_ask decl (tx ∷ txs) = (refl, inquiries_ask decl txs)

rises_answer : (decl : Declaration) (a : ℕ) (rs : List Record) → Answering NoAnswer (actor_rises decl a rs).turn
rises_answer decl a rs = by (is_site decl a) (is_client decl a)
  where
    by : (x y : Bool) → Answering NoAnswer (cond x (by_site (site_rises decl a rs))
        (cond y (by_client (client_rises (a - decl.sites) rs)) (by_admin (admin_rises rs)))).turn
    by true y =
        record {
          sends = inquiries_ask decl (take most_inquiries
              (in_order (map (λ (p : Prepared). p.tx) (kept_by rs).promises)));
          failed_sends = tt;
        }
    by false true = record { sends = tt; failed_sends = tt }
    by false false = record { sends = tt; failed_sends = tt }

pub answers_rising : (decl : Declaration) (a : ℕ) (before : List Deed) (rs : List Record) (turn : Turn)
    → IsLawfulWithFalls decl a (before ++ Rises rs ∷ []) turn → Every NoAnswer (sends_as turn.append turn)
answers_rising decl a before rs turn lawful =
    with_any NoAnswer turn
    (subst (Answering NoAnswer) (ap (λ (m : ActorMove). m.turn) (sym (rises decl a before rs))
    ∙ called_turn decl a (before ++ Rises rs ∷ []) turn lawful)
    (rises_answer decl a rs))
