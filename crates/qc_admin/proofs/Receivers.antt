-- To whom his turns go, and how many messages they have.
use Rattle.std.proofs.Common.{◌≡◌, ℕ, zero, suc, ◌+◌, ◌^◌, ◌≤◌, ◌<◌, ◌==◌, Bool, true, false, cond, List, [], ◌∷◌}
use Rattle.std.proofs.Common.{length, map, take, Option, Some, None, refl, sym, ap, ◌∙◌, subst, arith}
use Rattle.std.specs.List.{AllByRecursion as Every}
use Rattle.std.specs.Prelude.{nat_le}
use Rattle.std.proofs.lemmas.List.{length-append, length-map, length-take}
use Rattle.qc_decl.specs.declared.declaration.Declaration.{Declaration}
use Rattle.qc_decl.specs.Vocabulary.{IsAccepted, most_record_bytes}
use Rattle.qc_msg.specs.declared.call.Call.{Call}
use Rattle.qc_msg.specs.declared.message.Answer.{Answer}
use Rattle.qc_msg.specs.declared.message.Message.{Message}
use Rattle.qc_msg.specs.declared.message.Message.TheVariants as messages
use Rattle.qc_msg.specs.declared.reply.Reply.TheVariants as replies
use Rattle.qc_msg.specs.declared.step.Command.{Command}
use Rattle.qc_msg.specs.declared.step.Command.TheVariants as commands
use Rattle.qc_msg.specs.declared.step.Input.{Input}
use Rattle.qc_msg.specs.declared.step.Input.TheVariants as inputs
use Rattle.qc_msg.specs.declared.turn.Posting.{Posting}
use Rattle.qc_msg.specs.declared.turn.Turn.{Turn}
use Rattle.qc_msg.specs.Vocabulary.{epoch_length, quiet, sending, site_called, without_call}
use Rattle.qc_plan.specs.declared.standing.Verdict.{Verdict}
use Rattle.qc_plan.specs.declared.standing.Verdict.TheVariants as verdicts
use Rattle.qc_plan.specs.Vocabulary.{RoundState, note, verdict, wanted}
use Rattle.qc_front.specs.Vocabulary.{IsPrefix, sites_of}
use Rattle.qc_front.proofs.Awaited.{wanted_is}
use Rattle.qc_epoch.specs.Vocabulary.{Admin, Asking, Closing, Doing, Installing, Question, Resting, ShutSite}
use Rattle.qc_msg.specs.declared.payload.EpochStart.{EpochStart}
use Rattle.qc_epoch.specs.Vocabulary.{admin_takes, again, all_sites, all_taken, answered_in, ask_of, asks, called}
use Rattle.qc_epoch.specs.Vocabulary.{close_of, close_round, closes, closes_by, closing_takes, decide_turn, decides}
use Rattle.qc_epoch.specs.Vocabulary.{decision, doing, first_doubt, goes_on, heard, in_asked_order, install_of}
use Rattle.qc_epoch.specs.Vocabulary.{installing, installing_takes, most_asks, moved, moves_to, outcome_in}
use Rattle.qc_epoch.specs.Vocabulary.{questions_of, replies_with, settles, settles_by, site_set, standing_of, taken_for}
use Rattle.qc_epoch.specs.Vocabulary.{with_installed, with_shut_of}
use Rattle.qc_admin.specs.Vocabulary.{AdminFits, AnswerFits, AreSites, DoingFits, GivenFits, GoesToActors, MessageFits}
use Rattle.qc_admin.specs.Vocabulary.{ShutsFit, sites_in}
use Rattle.qc_admin.proofs.Bits.{below_16, both_sets, first_bit}
use Rattle.qc_admin.proofs.Moves.{last_fits, ordered_fit, shut_last}
use Rattle.qc_admin.proofs.Promised.{AreAsked, questions_asked}
use Rattle.qc_admin.proofs.RoundBits.{note_fits, round_begins, row_sites}

-- nobody hears of anything
silent : (turn : Turn) → turn.sends ≡ [] → GoesToActors turn
silent turn none = record {
  receivers = subst (Every (λ (p : Posting). p.to < 32)) (sym none) tt;
  few = let nothing : length turn.sends ≡ 0 = ap length none in omega arith;
}

-- sites of a set of 16 bits
each_below : (sites : List ℕ) → site_set sites < 2 ^ 16 → Every (λ (s : ℕ). s < 16) sites
each_below [] set = tt
each_below (s ∷ ss) set =
    let more = first_bit s ss in
    (below_16 s (omega (arith, more, set)), each_below ss (omega (arith, more, set)))

to_sites : (make : ℕ → Posting) → ((s : ℕ) → (make s).to ≡ s) → (sites : List ℕ) → Every (λ (s : ℕ). s < 16) sites
    → Every (λ (p : Posting). p.to < 32) (map make sites)
to_sites make goes [] low = tt
to_sites make goes (s ∷ ss) low = (
  let to : (make s).to ≡ s = goes s in let less : s < 16 = low.0 in omega arith,
  to_sites make goes ss low.1,
)

sites_told : (make : ℕ → Posting) (sites : List ℕ) (turn : Turn) → ((s : ℕ) → (make s).to ≡ s) → AreSites sites
    → turn.sends ≡ map make sites → GoesToActors turn
sites_told make sites turn goes are is = record {
  receivers = subst (Every (λ (p : Posting). p.to < 32)) (sym is) (to_sites make goes sites (each_below sites are.set));
  few =
      let count : length turn.sends ≡ length (map make sites) = ap length is in
      let same : length (map make sites) ≡ length sites = length-map sites make in
      let few : length sites ≤ 16 = are.few in
      omega arith;
}

-- a round asks sites of its own
wanted_sites : (round : RoundState) → AreSites (sites_in round) → AreSites (wanted round)
wanted_sites round are =
    let p : IsPrefix (wanted round) round.rest = wanted_is round in
    let whole : site_set (sites_in round) ≡ site_set (sites_of round.asked) + site_set round.rest =
    both_sets (sites_of round.asked) round.rest in
    let split : site_set round.rest ≡ site_set (wanted round) + site_set p.more = ap site_set (sym p.is)
    ∙ both_sets (wanted round) p.more in
    let count : length (sites_in round) ≡ length (sites_of round.asked) + length round.rest =
    length-append (sites_of round.asked) round.rest in
    let part : length round.rest ≡ length (wanted round) + length p.more = ap length (sym p.is)
    ∙ length-append (wanted round) p.more in
    let few : length (sites_in round) ≤ 16 = are.few in
    let set : site_set (sites_in round) < 2 ^ 16 = are.set in
    record { few = omega (arith, count, part, few); set = omega (arith, whole, split, set) }

-- clients of promised transactions
to_clients : (decl : Declaration) (qs : List Question) (n : ℕ) → decl.sites ≤ 16 → AreAsked qs
    → Every (λ (p : Posting). p.to < 32) (map (ask_of decl) (take n qs))
to_clients decl qs zero few all = tt
to_clients decl [] (suc n) few all = tt
to_clients decl (q ∷ qs) (suc n) few all =
    (let low : q.tx.client < 16 = all.0 in omega arith, to_clients decl qs n few all.1)

asks_go : (decl : Declaration) (qs : List Question) → IsAccepted decl → AreAsked qs
    → GoesToActors (sending (map (ask_of decl) (take most_asks qs)))
asks_go decl qs accepted all = record {
  receivers = to_clients decl qs most_asks accepted.sites all;
  few =
      let same : length (map (ask_of decl) (take most_asks qs)) ≡ length (take most_asks qs) =
      length-map (take most_asks qs) (ask_of decl) in
      let cut = length-take most_asks qs in
      omega (arith, same, cut);
}

-- moves

row : (decl : Declaration) → IsAccepted decl → AreSites (all_sites decl)
row decl accepted = row_sites decl.sites accepted.sites

decides_go : (decl : Declaration) (m : Admin) (d : EpochStart) (closed : List ℕ) → IsAccepted decl
    → GoesToActors (decides decl m d closed).turn
decides_go decl m d closed accepted = by (nat_le (epoch_length d.lines) most_record_bytes)
  where
    by : (t : Bool) → GoesToActors (cond t (moved
        (record { epoch = d.epoch; decided = Some d; doing = installing decl closed }) (decide_turn decl d))
        (replies_with m replies.Fault)).turn
    by true = sites_told (install_of d) (all_sites decl) (decide_turn decl d) (λ s. refl) (row decl accepted) refl
    by false = silent (replies_with m replies.Fault).turn refl

settles_go : (decl : Declaration) (m : Admin) (epoch : ℕ) (shuts : List ShutSite) (qs : List Question) → IsAccepted decl
    → GoesToActors (settles decl m epoch shuts qs).turn
settles_go decl m epoch shuts qs accepted = by (first_doubt qs)
  where
    by : (o : Option Question) → GoesToActors (settles_by decl m epoch shuts qs o).turn
    by (Some q) = silent (settles_by decl m epoch shuts qs (Some q)).turn refl
    by None = decides_go decl m (decision epoch shuts qs) (map (λ (s : ShutSite). s.site) shuts) accepted

asks_on_go : (decl : Declaration) (m : Admin) (epoch : ℕ) (shuts : List ShutSite) → IsAccepted decl → ShutsFit shuts
    → GoesToActors (asks decl m epoch shuts (questions_of shuts)).turn
asks_on_go decl m epoch shuts accepted fit = by (length (questions_of shuts) == 0)
  where
    by : (t : Bool) → GoesToActors (cond t (settles decl m epoch shuts (questions_of shuts))
        (moved (doing m (Asking epoch shuts (questions_of shuts)))
        (sending (map (ask_of decl) (take most_asks (questions_of shuts)))))).turn
    by true = settles_go decl m epoch shuts (questions_of shuts) accepted
    by false = asks_go decl (questions_of shuts) accepted (questions_asked shuts fit)

closes_go : (decl : Declaration) (m : Admin) (epoch : ℕ) (calls : List Call) (round : RoundState)
    (shuts : List ShutSite) → IsAccepted decl
    → AreSites (sites_in round) → ShutsFit shuts → GoesToActors (closes decl m epoch calls round shuts).turn
closes_go decl m epoch calls round shuts accepted are fit = by (verdict round)
  where
    by : (v : Verdict) → GoesToActors (closes_by decl m epoch calls round shuts v).turn
    by verdicts.Waiting = sites_told (close_of epoch) (wanted round) (goes_on m epoch calls round shuts).turn
        (λ s. refl) (wanted_sites round are) refl
    by verdicts.Met = asks_on_go decl m epoch (in_asked_order round.asked shuts) accepted
        (ordered_fit round.asked shuts fit)
    by (verdicts.Closed e site) = silent quiet refl
    by (verdicts.Clash tx site) = silent quiet refl
    by (verdicts.Short got need) = silent (closes_by decl m epoch calls round shuts (verdicts.Short got need)).turn refl

-- inputs

again_goes : (decl : Declaration) (m : Admin) (o : Option EpochStart) → IsAccepted decl
    → GoesToActors (again decl m o).turn
again_goes decl m None accepted = silent (again decl m None).turn refl
again_goes decl m (Some d) accepted = sites_told (install_of d) (all_sites decl) (again decl m (Some d)).turn
    (λ s. refl) (row decl accepted) refl

moves_go : (decl : Declaration) (m : Admin) (number : ℕ) → IsAccepted decl → GoesToActors (moves_to decl m number).turn
moves_go decl m number accepted = by (number == m.epoch) (number == m.epoch + 1)
  where
    by : (same next : Bool) → GoesToActors (cond same (again decl m m.decided)
        (cond next (closes decl m number [] (close_round decl m.epoch) [])
        (replies_with m (replies.Order m.epoch)))).turn
    by true next = again_goes decl m m.decided accepted
    by false true = closes_go decl m number [] (close_round decl m.epoch) [] accepted
        (round_begins decl m.epoch accepted) tt
    by false false = silent (replies_with m (replies.Order m.epoch)).turn refl

called_goes : (decl : Declaration) (m : Admin) (command : Command) → IsAccepted decl
    → GoesToActors (called decl m command).turn
called_goes decl m commands.Begin accepted = silent quiet refl
called_goes decl m (commands.Do object inv) accepted = silent quiet refl
called_goes decl m commands.Commit accepted = silent quiet refl
called_goes decl m commands.Abort accepted = silent quiet refl
called_goes decl m (commands.Epoch number) accepted = moves_go decl m number accepted

answered_goes : (decl : Declaration) (m : Admin) (runs : Doing) (number : ℕ) (answer : Option Answer) → IsAccepted decl
    → DoingFits runs → AnswerFits answer
    → GoesToActors (answered_in decl m runs number answer).turn
answered_goes decl m Resting number answer accepted fits told = silent quiet refl
answered_goes decl m (Closing epoch calls round shuts) number answer accepted fits told = by (site_called calls number)
  where
    by : (o : Option ℕ) → GoesToActors (closing_takes decl m epoch calls round shuts number answer o).turn
    by None = silent quiet refl
    by (Some site) =
        closes_go decl m epoch (without_call calls number) (note round site (standing_of answer))
        (with_shut_of shuts site answer) accepted
        (note_fits round site (standing_of answer) fits.0)
        (subst ShutsFit (sym (shut_last shuts site answer)) (last_fits shuts site answer fits.1 told))
answered_goes decl m (Asking epoch shuts questions) number answer accepted fits told =
    by (all_taken (map (taken_for number (outcome_in answer)) questions))
  where
    by : (t : Bool) → GoesToActors (cond t (settles decl m epoch shuts
        (map (taken_for number (outcome_in answer)) questions))
        (moved (doing m (Asking epoch shuts (map (taken_for number (outcome_in answer)) questions))) quiet)).turn
    by true = settles_go decl m epoch shuts (map (taken_for number (outcome_in answer)) questions) accepted
    by false = silent quiet refl
answered_goes decl m (Installing closed awaits calls installed) number answer accepted fits told =
    by (site_called calls number)
  where
    left : (site : ℕ) (t : Bool) → GoesToActors
        (cond t (replies_with m (replies.Moved (site_set closed) (site_set (with_installed installed site answer))))
        (moved (doing m (Installing closed awaits (without_call calls number) (with_installed installed site answer)))
        quiet)).turn
    left site true = silent (replies_with m (replies.Moved (site_set closed)
        (site_set (with_installed installed site answer)))).turn refl
    left site false = silent quiet refl

    by : (o : Option ℕ) → GoesToActors (installing_takes m closed awaits calls installed number answer o).turn
    by None = silent quiet refl
    by (Some site) = left site (length (without_call calls number) == 0)

heard_goes : (decl : Declaration) (m : Admin) (message : Message) → IsAccepted decl → AdminFits m → MessageFits message
    → GoesToActors (heard decl m message).turn
heard_goes decl m (messages.Request tx epoch life want) accepted was told = silent quiet refl
heard_goes decl m (messages.Answer to answer) accepted was told =
    answered_goes decl m m.doing to (Some answer) accepted was told
heard_goes decl m (messages.Decision tx verdict) accepted was told = silent quiet refl
heard_goes decl m (messages.Inquiry tx) accepted was told = silent quiet refl
heard_goes decl m (messages.Ask tx) accepted was told = silent quiet refl
heard_goes decl m (messages.Close epoch) accepted was told = silent quiet refl
heard_goes decl m (messages.Install start) accepted was told = silent quiet refl

pub turns_go_to_actors : (decl : Declaration) (m : Admin) (input : Input) → IsAccepted decl → AdminFits m
    → GivenFits input
    → GoesToActors (admin_takes decl m input).turn
turns_go_to_actors decl m (inputs.Called command) accepted was told = called_goes decl m command accepted
turns_go_to_actors decl m (inputs.Got envelope) accepted was told = heard_goes decl m envelope.message accepted was told
turns_go_to_actors decl m (inputs.Lost number) accepted was told =
    answered_goes decl m m.doing number None accepted was tt
