-- What an actor has told, and which Asks it is about to send, at first, as it rises, and after an input.
use Rattle.std.proofs.Common.{◌≡◌, ℕ, Bool, true, false, List, [], ◌∷◌, ◌++◌, map, take, refl, sym, ap, subst}
use Rattle.std.specs.List.{AllByRecursion as Every}
use Rattle.qc_core.specs.declared.actor.Actor.{Actor}
use Rattle.qc_core.specs.declared.actor.Actor.TheVariants as actors_of
use Rattle.qc_core.specs.Vocabulary.{ActorMove, IsLawfulWithFalls, Lives, actor_after, actor_rises, actor_takes, moved}
use Rattle.qc_core.specs.Vocabulary.{new_actor, with_record}
use Rattle.qc_core.specs.Lives as lives
use Rattle.qc_core.proofs.AdminTurns.{IsSentByAdmin}
use Rattle.qc_core.proofs.AdminWrites.{admin_written}
use Rattle.qc_core.proofs.PostsByTurns.{called_turn}
use Rattle.qc_decl.specs.Vocabulary.{is_client, is_site}
use Rattle.qc_decl.specs.declared.declaration.Declaration.{Declaration}
use Rattle.qc_entry.specs.declared.record.Prepared.{Prepared}
use Rattle.qc_msg.specs.Vocabulary.{Deed, Takes, quiet}
use Rattle.qc_msg.specs.declared.message.Envelope.{Envelope}
use Rattle.qc_msg.specs.declared.record.Record.{Record}
use Rattle.qc_msg.specs.declared.step.Input.{Input}
use Rattle.qc_msg.specs.declared.turn.Turn.{Turn}
use Rattle.qc_recover.specs.Vocabulary.{inquiry, kept_by, most_inquiries}
use Rattle.qc_site.specs.Vocabulary.{in_order}
use Rattle.qc_stamp.specs.declared.stamp.TxId.{TxId}
use Rattle.laws_bounds.proofs.AdminQuestions.{AreLined, questions_in}
use Rattle.laws_bounds.proofs.AdminsAsked.{any_decided_asked, takes_lined}
use Rattle.laws_bounds.proofs.AnswersToAsks.{ActorTold, SendsTold}
use Rattle.laws_bounds.proofs.AsksAnswered.{AreReady}
use Rattle.qc_core.proofs.ByNumber.{new_by, rises_by}
use Rattle.qc_core.proofs.ActorLaws.{input}

pub new_told : (decl : Declaration) (a : ℕ) → ActorTold [] (moved (new_actor decl a) quiet)
new_told decl a = by (is_site decl a) (is_client decl a)
  where
    by : (site client : Bool) → ActorTold [] (moved (new_by decl a site client) quiet)
    by true client = record { turn = record { sends = tt; failed_sends = tt }; asked = tt }
    by false true = record { turn = record { sends = tt; failed_sends = tt }; asked = tt }
    by false false = record {
      turn = record { sends = tt; failed_sends = tt };
      asked = record { decided = tt; doing = tt };
    }

inquiries_told : (decl : Declaration) (ms : List Envelope) (txs : List TxId) → SendsTold ms (map (inquiry decl) txs)
inquiries_told decl ms [] = tt
inquiries_told decl ms (tx ∷ txs) = (tt, inquiries_told decl ms txs)

pub rises_told : (decl : Declaration) (a : ℕ) (ms : List Envelope) (rs : List Record)
    → ActorTold ms (actor_rises decl a rs)
rises_told decl a ms rs = by (is_site decl a) (is_client decl a)
  where
    by : (site client : Bool) → ActorTold ms (rises_by decl a rs site client)
    by true client = record {
      turn = record {
        sends = inquiries_told decl ms (take most_inquiries
            (in_order (map (λ (p : Prepared). p.tx) (kept_by rs).promises)));
        failed_sends = tt;
      };
      asked = tt;
    }
    by false true = record { turn = record { sends = tt; failed_sends = tt }; asked = tt }
    by false false = record {
      turn = record { sends = tt; failed_sends = tt };
      asked = record { decided = any_decided_asked ms _; doing = tt };
    }

takes_ready : (decl : Declaration) (v : Actor) (g : Input)
    → AreReady (actor_takes decl v g).actor (actor_takes decl v g).turn
takes_ready decl (actors_of.Site s) g = tt
takes_ready decl (actors_of.Client c) g = tt
takes_ready decl (actors_of.Admin m) g = (takes_lined decl m g, (admin_written decl m g).sends)
takes_ready decl actors_of.Down g = tt

same_sends : (v : Actor) (t u : Turn) → t.sends ≡ u.sends → AreReady v t → AreReady v u
same_sends (actors_of.Site s) t u same ready = tt
same_sends (actors_of.Client c) t u same ready = tt
same_sends (actors_of.Admin m) t u same ready =
    (subst (AreLined (questions_in m.doing)) same ready.0, subst (Every IsSentByAdmin) same ready.1)
same_sends actors_of.Down t u same ready = tt

ready_as : (m : ActorMove) (n : ActorMove) (turn : Turn) → n ≡ m → n.turn ≡ with_record turn → AreReady m.actor m.turn
    → AreReady n.actor turn
ready_as m n turn is its ready =
    same_sends n.actor n.turn turn (ap (λ (t : Turn). t.sends) its)
    (subst (λ (x : ActorMove). AreReady x.actor x.turn) (sym is) ready)

pub open_ready : (decl : Declaration) (a : ℕ) (ds : List Deed) (turn : Turn) {n : ℕ} → Lives decl a ds true n
    → IsLawfulWithFalls decl a ds turn → AreReady (actor_after decl a ds).actor turn
open_ready decl a ds turn life law = by ds true _ life refl law
  where
    by : (ds : List Deed) (b : Bool) (n : ℕ) → Lives decl a ds b n → b ≡ true → IsLawfulWithFalls decl a ds turn
        → AreReady (actor_after decl a ds).actor turn
    by ds b n lives.starts is law = absurd (let never : ⊥ = cc in never)
    by ds b n (lives.takes before g m life may reach) is law =
        ready_as (actor_takes decl (actor_after decl a before).actor g)
        (actor_after decl a (before ++ Takes g ∷ [])) turn
        (input decl a before g) (called_turn decl a (before ++ Takes g ∷ []) turn law)
        (takes_ready decl (actor_after decl a before).actor g)
    by ds b n (lives.posts before t m first life low its) is law = absurd (let never : ⊥ = cc in never)
    by ds b n (lives.crashes before m life up) is law = absurd (let never : ⊥ = cc in never)
    by ds b n (lives.rises before rs t m first life down low its) is law = absurd (let never : ⊥ = cc in never)
    by ds b n (lives.unopened before cause m life down disk) is law = absurd (let never : ⊥ = cc in never)

pub risen_ready : (decl : Declaration) (a : ℕ) (n : ActorMove) (rs : List Record) (turn : Turn)
    → n ≡ actor_rises decl a rs
    → n.turn ≡ with_record turn → AreReady n.actor turn
risen_ready decl a n rs turn is its = ready_as (actor_rises decl a rs) n turn is its
    (by (is_site decl a) (is_client decl a))
  where
    by : (site client : Bool) → AreReady (rises_by decl a rs site client).actor (rises_by decl a rs site client).turn
    by true client = tt
    by false true = tt
    by false false = (tt, tt)
