-- A client's count of transactions is at most its deeds, and begins anew at a rise; an actor keeps its life until it
-- rises or closes an epoch, and has at most two more than the records that it rises with.
use Rattle.std.proofs.Common.{◌≡◌, ℕ, ◌+◌, ◌-◌, ◌≤◌, ◌==◌, Bool, true, false, cond, List, [], ◌∷◌, ◌++◌, fold, length}
use Rattle.std.proofs.Common.{Option, Some, None, arith, length-append, subst, sym}
use Rattle.std.specs.Prelude.{option_to_list, slice_get, MatchOption}
use Rattle.std.specs.List.{AllByRecursion as Every}
use Rattle.qc_list.proofs.Members.{every-append}
use Rattle.qc_client.specs.Vocabulary.{client_takes, sent_one}
use Rattle.qc_core.specs.declared.actor.Actor.{Actor}
use Rattle.qc_core.specs.declared.actor.Actor.TheVariants as actors
use Rattle.qc_core.specs.Vocabulary.{ActorMove, actor_after, actor_does, actor_rises, actor_sends, actor_takes}
use Rattle.qc_core.specs.Vocabulary.{moved, new_actor}
use Rattle.qc_core.proofs.ByNumber.{new_by, rises_by}
use Rattle.qc_decl.specs.Vocabulary.{is_client, is_site}
use Rattle.qc_decl.specs.declared.declaration.Declaration.{Declaration}
use Rattle.qc_msg.specs.declared.message.Envelope.{Envelope}
use Rattle.qc_msg.specs.declared.message.Message.{Message}
use Rattle.qc_msg.specs.declared.record.Record.{Record}
use Rattle.qc_msg.specs.declared.record.Record.TheVariants as records
use Rattle.qc_msg.specs.declared.step.Input.{Input}
use Rattle.qc_msg.specs.declared.step.Input.TheVariants as inputs
use Rattle.qc_msg.specs.declared.step.Step.{Step}
use Rattle.qc_msg.specs.Vocabulary.{Deed, Entry, Falls, Rises, Sends, Takes, Tells, Writes, deed_at, deeds, envelope_of}
use Rattle.qc_msg.specs.Vocabulary.{heard as heard_deeds, quiet, risen_in}
use Rattle.qc_recover.specs.Vocabulary.{client_rises, nothing_kept as no_site, site_rises}
use Rattle.qc_recover.specs.Clients.{nothing_kept as no_client}
use Rattle.qc_recover.proofs.Lives.{client_lives, site_lives}
use Rattle.qc_site.specs.Vocabulary.{SiteState, passed, site_takes}
use Rattle.qc_site.proofs.Cases.{state_cases}
use Rattle.laws_bounds.specs.Vocabulary.{CountsWithin, LivesWithin, RiseWithFew, risen_at}
use Rattle.laws_bounds.proofs.ClientCounts.{sent_same, takes_steps}
use Rattle.laws_bounds.proofs.StepCases.{deed_cases}

-- deeds whose rises give at most so many records
abbrev pub RisesFew : ℕ → Deed → Type 0
RisesFew n d = MatchOption (risen_in d) (Unit {0}) (λ (rs : List Record). length rs ≤ n)

-- an actor's count over its deeds: at most the deeds

module _ (decl : Declaration) (a : ℕ) where
  counts_more : (low high : ℕ) (v : Actor) → low ≤ high → CountsWithin low v → CountsWithin high v
  counts_more low high (actors.Site s) le w = tt
  counts_more low high (actors.Client c) le w = (let n : c.front.count ≤ low = w in omega arith)
  counts_more low high (actors.Admin m) le w = tt
  counts_more low high actors.Down le w = tt

  counts_take : (n : ℕ) (v : Actor) (g : Input) → CountsWithin n v → CountsWithin (n + 1) (actor_takes decl v g).actor
  counts_take n (actors.Site s) g w = tt
  counts_take n (actors.Client c) g w =
      (let before : c.front.count ≤ n = w in let step : (client_takes decl c g).client.front.count ≤ c.front.count + 1 =
      (takes_steps decl c g).count in omega arith)
  counts_take n (actors.Admin m) g w = tt
  counts_take n actors.Down g w = tt

  counts_send : (n : ℕ) (v : Actor) (number to : ℕ) (message : Message) → CountsWithin n v
      → CountsWithin n (actor_sends v number to message)
  counts_send n (actors.Site s) number to message w = tt
  counts_send n (actors.Client c) number to message w =
      (let before : c.front.count ≤ n = w in let same : (sent_one c number to message).front.count ≡ c.front.count =
      (sent_same c number to message).count in omega arith)
  counts_send n (actors.Admin m) number to message w = tt
  counts_send n actors.Down number to message w = tt

  counts_rise : (n : ℕ) (rs : List Record) → CountsWithin n (actor_rises decl a rs).actor
  counts_rise n rs = by (is_site decl a) (is_client decl a)
    where
      by : (site client : Bool) → CountsWithin n (rises_by decl a rs site client).actor
      by true client = tt
      by false true = omega arith
      by false false = tt

  counts_fold : (n : ℕ) (m : ActorMove) (ds : List Deed) → CountsWithin n m.actor
      → CountsWithin (n + length ds) (fold (actor_does decl a) m ds).actor
  counts_fold n m [] w = counts_more n (n + 0) m.actor (omega arith) w
  counts_fold n m (d ∷ ds) w =
      counts_more (n + 1 + length ds) (n + length (d ∷ ds)) (fold (actor_does decl a) (actor_does decl a m d) ds).actor
      (omega arith)
      (counts_fold (n + 1) (actor_does decl a m d) ds (by d))
    where
      by : (d : Deed) → CountsWithin (n + 1) (actor_does decl a m d).actor
      by (Takes g) = counts_take n m.actor g w
      by (Writes written) = counts_more n (n + 1) m.actor (omega arith) w
      by (Sends number to message) =
          counts_send (n + 1) m.actor number to message (counts_more n (n + 1) m.actor (omega arith) w)
      by (Tells reply) = counts_more n (n + 1) m.actor (omega arith) w
      by (Falls cause pending) = tt
      by (Rises rs) = counts_rise (n + 1) rs

  new_counts : CountsWithin 0 (new_actor decl a)
  new_counts = by (is_site decl a) (is_client decl a)
    where
      by : (site client : Bool) → CountsWithin 0 (new_by decl a site client)
      by true client = tt
      by false true = omega arith
      by false false = tt

  -- its life: that of its last rise, or the first

  lives_more : (low high : ℕ) (v : Actor) → low ≤ high → LivesWithin low v → LivesWithin high v
  lives_more low high (actors.Site s) le w = (let n : s.life ≤ low = w in omega arith)
  lives_more low high (actors.Client c) le w = (let n : c.front.life ≤ low = w in omega arith)
  lives_more low high (actors.Admin m) le w = tt
  lives_more low high actors.Down le w = tt

  site_life : (s : SiteState) (g : Input) → (site_takes decl s g).site.life ≤ s.life + 1
  site_life s (inputs.Called command) = omega arith
  site_life s (inputs.Got e) =
      let same : s.life ≤ s.life + 1 = omega arith in
      let closed : s.life + 1 ≤ s.life + 1 = omega arith in
      state_cases (λ (t : SiteState). t.life ≤ s.life + 1) decl (passed s e.message) e.from e.number e.message same
      (λ tx epoch life r is. same) (λ tx epoch life object view own is. same) (λ tx. same)
      (λ tx verdict is final. same) (λ tx stamp p is. same) (λ k is. closed) (λ k clock lines is later. same)
  site_life s (inputs.Lost number) = omega arith

  lives_take : (n : ℕ) (v : Actor) (g : Input) → LivesWithin n v → LivesWithin (n + 1) (actor_takes decl v g).actor
  lives_take n (actors.Site s) g w =
      (let before : s.life ≤ n = w in let step : (site_takes decl s g).site.life
      ≤ s.life + 1 = site_life s g in omega arith)
  lives_take n (actors.Client c) g w =
      (let before : c.front.life ≤ n = w in let same : (client_takes decl c g).client.front.life ≡ c.front.life =
      (takes_steps decl c g).life in omega arith)
  lives_take n (actors.Admin m) g w = tt
  lives_take n actors.Down g w = tt

  lives_send : (n : ℕ) (v : Actor) (number to : ℕ) (message : Message) → LivesWithin n v
      → LivesWithin n (actor_sends v number to message)
  lives_send n (actors.Site s) number to message w = w
  lives_send n (actors.Client c) number to message w =
      (let before : c.front.life ≤ n = w in let same : (sent_one c number to message).front.life ≡ c.front.life =
      (sent_same c number to message).life in omega arith)
  lives_send n (actors.Admin m) number to message w = tt
  lives_send n actors.Down number to message w = tt

  pub lives_rise : (n : ℕ) (rs : List Record) → length rs ≤ n → LivesWithin (n + 2) (actor_rises decl a rs).actor
  lives_rise n rs few = by (is_site decl a) (is_client decl a)
    where
      long : length (rs ++ records.Life ∷ []) ≡ length rs + 1
      long = length-append rs (records.Life ∷ [])

      by : (site client : Bool) → LivesWithin (n + 2) (rises_by decl a rs site client).actor
      by true client =
          (let life : (site_rises decl a rs).site.life ≤ 1 + length (rs ++ records.Life ∷ []) = site_lives no_site
          (rs ++ records.Life ∷ []) in omega (arith, life, long, few))
      by false true =
          (let life : (client_rises (a - decl.sites) rs).client.front.life ≤ 1 + length
          (rs ++ records.Life ∷ []) = client_lives no_client (rs ++ records.Life ∷ []) in omega
          (arith, life, long, few))
      by false false = tt

  lives_fold : (n k : ℕ) (m : ActorMove) (ds : List Deed) → Every (RisesFew n) ds → n + 2 ≤ k → LivesWithin k m.actor
      → LivesWithin (k + length ds) (fold (actor_does decl a) m ds).actor
  lives_fold n k m [] few le w = lives_more k (k + 0) m.actor (omega arith) w
  lives_fold n k m (d ∷ ds) few le w =
      lives_more (k + 1 + length ds) (k + length (d ∷ ds)) (fold (actor_does decl a) (actor_does decl a m d) ds).actor
      (omega arith)
      (lives_fold n (k + 1) (actor_does decl a m d) ds few.1 (omega arith) (by d few.0))
    where
      by : (d : Deed) → RisesFew n d → LivesWithin (k + 1) (actor_does decl a m d).actor
      by (Takes g) few = lives_take k m.actor g w
      by (Writes written) few = lives_more k (k + 1) m.actor (omega arith) w
      by (Sends number to message) few =
          lives_send (k + 1) m.actor number to message (lives_more k (k + 1) m.actor (omega arith) w)
      by (Tells reply) few = lives_more k (k + 1) m.actor (omega arith) w
      by (Falls cause pending) few = tt
      by (Rises rs) few = lives_more (n + 2) (k + 1) (actor_rises decl a rs).actor (omega arith) (lives_rise n rs few)

  new_lives : (n : ℕ) → LivesWithin (n + 2) (new_actor decl a)
  new_lives n = by (is_site decl a) (is_client decl a)
    where
      by : (site client : Bool) → LivesWithin (n + 2) (new_by decl a site client)
      by true client = omega arith
      by false true = omega arith
      by false false = tt

-- the deeds of a history are at most its steps

heard_few : (o : Option Envelope) → length (heard_deeds o) ≤ 1
heard_few None = omega arith
heard_few (Some e) = omega arith

step_few : (ms : List Envelope) (step : Step) → length (deed_at ms step) ≤ 1
step_few ms =
    deed_cases ms (λ s ds. length ds ≤ 1) (λ s. omega arith) (λ n. heard_few (slice_get ms n)) (λ rs. omega arith)
    (λ s d risen got. omega arith)

mine_few : (mine : Bool) (ms : List Envelope) (step : Step) → length (cond mine (deed_at ms step) []) ≤ 1
mine_few true ms step = step_few ms step
mine_few false ms step = omega arith

pub deeds_few : (a : ℕ) (ms : List Envelope) (h : List Entry) → length (deeds a ms h) ≤ length h
deeds_few a ms [] = omega arith
deeds_few a ms (e ∷ h) =
    let one : length (cond (e.actor == a) (deed_at ms e.step) []) ≤ 1 = mine_few (e.actor == a) ms e.step in
    let more : length (deeds a (ms ++ option_to_list (envelope_of e)) h) ≤ length h =
    deeds_few a (ms ++ option_to_list (envelope_of e)) h in
    let both : length (cond (e.actor == a) (deed_at ms e.step) [] ++ deeds a (ms ++ option_to_list (envelope_of e)) h)
    ≡ length (cond (e.actor == a) (deed_at ms e.step) []) + length (deeds a (ms ++ option_to_list (envelope_of e)) h) =
    length-append (cond (e.actor == a) (deed_at ms e.step) []) (deeds a (ms ++ option_to_list (envelope_of e)) h) in
    omega arith

pub history_counts : (decl : Declaration) (a : ℕ) (h : List Entry)
    → CountsWithin (length h) (actor_after decl a (deeds a [] h)).actor
history_counts decl a h =
    counts_more decl a (0 + length (deeds a [] h)) (length h) (actor_after decl a (deeds a [] h)).actor
    (let few : length (deeds a [] h) ≤ length h = deeds_few a [] h in omega arith)
    (counts_fold decl a 0 (moved (new_actor decl a) quiet) (deeds a [] h) (new_counts decl a))

-- and what rises in it

heard_rises : (n : ℕ) (o : Option Envelope) → Every (RisesFew n) (heard_deeds o)
heard_rises n None = tt
heard_rises n (Some e) = (tt, tt)

step_rises : (n : ℕ) (ms : List Envelope) (step : Step) → length (risen_at step) ≤ n
    → Every (RisesFew n) (deed_at ms step)
step_rises n ms =
    deed_cases ms (λ s ds. length (risen_at s) ≤ n → Every (RisesFew n) ds) (λ s few. tt)
    (λ k few. heard_rises n (slice_get ms k)) (λ rs few. (few, tt))
    (λ s d risen got few. (
      subst (λ (o : Option (List Record)). MatchOption o (Unit {0}) (λ (rs : List Record). length rs ≤ n))
          (sym risen) tt,
      tt,
    ))

mine_rises : (n : ℕ) (mine : Bool) (ms : List Envelope) (step : Step) → length (risen_at step) ≤ n
    → Every (RisesFew n) (cond mine (deed_at ms step) [])
mine_rises n true ms step few = step_rises n ms step few
mine_rises n false ms step few = tt

deeds_rise : (n a : ℕ) (ms : List Envelope) (h : List Entry) → RiseWithFew n h → Every (RisesFew n) (deeds a ms h)
deeds_rise n a ms [] few = tt
deeds_rise n a ms (e ∷ h) few =
    every-append (RisesFew n) (cond (e.actor == a) (deed_at ms e.step) [])
    (deeds a (ms ++ option_to_list (envelope_of e)) h)
    (mine_rises n (e.actor == a) ms e.step few.0) (deeds_rise n a (ms ++ option_to_list (envelope_of e)) h few.1)

pub history_lives : (n : ℕ) (decl : Declaration) (a : ℕ) (h : List Entry) → RiseWithFew n h
    → LivesWithin (n + 2 + length h) (actor_after decl a (deeds a [] h)).actor
history_lives n decl a h few =
    lives_more decl a (n + 2 + length (deeds a [] h)) (n + 2 + length h) (actor_after decl a (deeds a [] h)).actor
    (let less : length (deeds a [] h) ≤ length h = deeds_few a [] h in omega arith)
    (lives_fold decl a n (n + 2) (moved (new_actor decl a) quiet) (deeds a [] h) (deeds_rise n a [] h few) (omega arith)
    (new_lives decl a n))
