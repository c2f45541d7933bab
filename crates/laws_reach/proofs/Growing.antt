-- What a post adds to an actor's journal, to whether it is up, and to its state, for each end of the turn's record.
use Rattle.std.proofs.Common.{◌≡◌, ℕ, ◌+◌, Bool, true, false, List, [], ◌∷◌, ◌++◌, fold, Option, Some, None}
use Rattle.std.proofs.Common.{option_to_list, refl, sym, ap, ◌∙◌}
use Rattle.std.proofs.lemmas.List.{append-nil}
use Rattle.std.proofs.lemmas.List.Sums.{fold-append}
use Rattle.qc_core.specs.declared.actor.Actor.{Actor}
use Rattle.qc_core.specs.declared.actor.Actor.TheVariants as actor
use Rattle.qc_core.specs.Vocabulary.{ActorMove, actor_after, actor_does, actor_sends, is_up, journal_after, journal_at}
use Rattle.qc_core.specs.Vocabulary.{up_at}
use Rattle.qc_decl.specs.declared.declaration.Declaration.{Declaration}
use Rattle.qc_msg.specs.declared.record.Record.{Record}
use Rattle.qc_msg.specs.declared.reply.Reply.{Reply}
use Rattle.qc_msg.specs.declared.step.Fall.TheVariants as causes
use Rattle.qc_msg.specs.declared.turn.Appended.{Appended}
use Rattle.qc_msg.specs.declared.turn.Appended.TheVariants.{Done, Failed, Stopped}
use Rattle.qc_msg.specs.declared.turn.Posting.{Posting}
use Rattle.qc_msg.specs.declared.turn.Turn.{Turn}
use Rattle.qc_msg.specs.Vocabulary.{Deed, Falls, Sends, deeds_as, sends_of, tells_of, turn_deeds, writes_of}
use Rattle.laws_refinement.specs.Vocabulary.{sent_all}
use Rattle.laws_refinement.specs.Net as nets
use Rattle.qc_promise.specs.Vocabulary.{Journal, no_journal, pending_with}
use Rattle.qc_core.proofs.SiteLives.{sends_stay, tells_stay, told_stay}

-- whether it is up

abbrev pub ended_up : Appended → Bool → Bool
ended_up Done up = up
ended_up Failed up = false
ended_up Stopped up = false

up_writes : (u : Bool) (o : Option Record) (ds : List Deed) → fold up_at u (writes_of o ++ ds) ≡ fold up_at u ds
up_writes u None ds = refl
up_writes u (Some written) ds = refl

up_ended : (u : Bool) (end : Appended) (n : ℕ) (turn : Turn) → fold up_at u (deeds_as end n turn) ≡ ended_up end u
up_ended u Done n turn = up_writes u turn.write (sends_of n turn.sends ++ tells_of turn.told)
    ∙ sends_stay u n turn.sends (tells_of turn.told) ∙ told_stay u turn.told
up_ended u Failed n turn = sends_stay u n turn.failed_sends
    (tells_of turn.failed_told ++ Falls causes.Disk turn.write ∷ [])
    ∙ tells_stay u turn.failed_told (Falls causes.Disk turn.write ∷ [])
up_ended u Stopped n turn = tells_stay u turn.failed_told (Falls causes.Stop turn.write ∷ [])

pub up_posted : (ds : List Deed) (end : Appended) (n : ℕ) (turn : Turn)
    → is_up (ds ++ deeds_as end n turn) ≡ ended_up end (is_up ds)
up_posted ds end n turn = fold-append up_at true ds (deeds_as end n turn) ∙ up_ended (is_up ds) end n turn

-- its journal

abbrev pub ended_journal : Appended → Option Record → Journal → Journal
ended_journal Done write j = record j { records = j.records ++ option_to_list write }
ended_journal Failed write j = record j { pending = pending_with j.pending write }
ended_journal Stopped write j = record j { pending = pending_with j.pending write }

journal_sends : (j : Journal) (n : ℕ) (ps : List Posting) (ds : List Deed)
    → fold journal_at j (sends_of n ps ++ ds) ≡ fold journal_at j ds
journal_sends j n [] ds = refl
journal_sends j n (p ∷ ps) ds = journal_sends j (n + 1) ps ds

journal_tells : (j : Journal) (o : Option Reply) (ds : List Deed)
    → fold journal_at j (tells_of o ++ ds) ≡ fold journal_at j ds
journal_tells j None ds = refl
journal_tells j (Some reply) ds = refl

journal_told : (j : Journal) (o : Option Reply) → fold journal_at j (tells_of o) ≡ j
journal_told j None = refl
journal_told j (Some reply) = refl

journal_writes : (j : Journal) (o : Option Record) (ds : List Deed)
    → fold journal_at j (writes_of o ++ ds) ≡ fold journal_at (record j { records = j.records ++ option_to_list o }) ds
journal_writes j None ds = ap (λ (rs : List Record). fold journal_at (record j { records = rs }) ds)
    (sym (append-nil j.records))
journal_writes j (Some written) ds = refl

journal_ended : (j : Journal) (end : Appended) (n : ℕ) (turn : Turn)
    → fold journal_at j (deeds_as end n turn) ≡ ended_journal end turn.write j
journal_ended j Done n turn =
    let k : Journal = record j { records = j.records ++ option_to_list turn.write } in
    journal_writes j turn.write (sends_of n turn.sends ++ tells_of turn.told)
    ∙ journal_sends k n turn.sends (tells_of turn.told) ∙ journal_told k turn.told
journal_ended j Failed n turn = journal_sends j n turn.failed_sends
    (tells_of turn.failed_told ++ Falls causes.Disk turn.write ∷ [])
    ∙ journal_tells j turn.failed_told (Falls causes.Disk turn.write ∷ [])
journal_ended j Stopped n turn = journal_tells j turn.failed_told (Falls causes.Stop turn.write ∷ [])

pub journal_posted : (ds : List Deed) (end : Appended) (n : ℕ) (turn : Turn)
    → journal_after (ds ++ deeds_as end n turn) ≡ ended_journal end turn.write (journal_after ds)
journal_posted ds end n turn = fold-append journal_at no_journal ds (deeds_as end n turn)
    ∙ journal_ended (journal_after ds) end n turn

-- and what it is, where its record was written

abbrev pub all_sent : Actor → ℕ → List Posting → Actor
all_sent (actor.Site s) n ps = actor.Site s
all_sent (actor.Client c) n ps = actor.Client (sent_all c n ps)
all_sent (actor.Admin m) n ps = actor.Admin (nets.all_sent m n ps)
all_sent actor.Down n ps = actor.Down

all_more : (v : Actor) (n to : ℕ) (message : _) (ps : List Posting)
    → all_sent (actor_sends v n to message) (n + 1) ps ≡ all_sent v n (record { to = to; message = message } ∷ ps)
all_more (actor.Site s) n to message ps = refl
all_more (actor.Client c) n to message ps = refl
all_more (actor.Admin m) n to message ps = refl
all_more actor.Down n to message ps = refl

none_sent : (v : Actor) (n : ℕ) → v ≡ all_sent v n []
none_sent (actor.Site s) n = refl
none_sent (actor.Client c) n = refl
none_sent (actor.Admin m) n = refl
none_sent actor.Down n = refl

module _ (decl : Declaration) (a : ℕ) where
  sends_actor : (m : ActorMove) (n : ℕ) (ps : List Posting) (told : Option Reply)
      → (fold (actor_does decl a) m (sends_of n ps ++ tells_of told)).actor ≡ all_sent m.actor n ps
  sends_actor m n [] None = none_sent m.actor n
  sends_actor m n [] (Some reply) = none_sent m.actor n
  sends_actor m n (p ∷ ps) told = sends_actor (actor_does decl a m (Sends n p.to p.message)) (n + 1) ps told
      ∙ all_more m.actor n p.to p.message ps

  turn_actor : (m : ActorMove) (n : ℕ) (turn : Turn)
      → (fold (actor_does decl a) m (turn_deeds n turn)).actor ≡ all_sent m.actor n turn.sends
  turn_actor m n turn = by turn.write
    where
      by : (w : Option Record) → (fold (actor_does decl a) m
          (writes_of w ++ (sends_of n turn.sends ++ tells_of turn.told))).actor ≡ all_sent m.actor n turn.sends
      by None = sends_actor m n turn.sends turn.told
      by (Some written) = sends_actor m n turn.sends turn.told

  pub actor_posted : (ds : List Deed) (n : ℕ) (turn : Turn)
      → (actor_after decl a (ds ++ turn_deeds n turn)).actor ≡ all_sent (actor_after decl a ds).actor n turn.sends
  actor_posted ds n turn = ap (λ (m : ActorMove). m.actor) (fold-append (actor_does decl a) _ ds (turn_deeds n turn))
      ∙ turn_actor (actor_after decl a ds) n turn
