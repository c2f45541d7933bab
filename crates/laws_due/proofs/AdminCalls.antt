-- The open requests of the administrator after an input are ones that were open before, but not the one that the input
-- answers; and a message that he sends opens one where it is a request.
use Rattle.std.proofs.Common.{◌≡◌, ℕ, ◌+◌, ◌==◌, nat_le, ◌⊎◌, Bool, true, false, cond, inl, inr, List, [], ◌∷◌, length}
use Rattle.std.proofs.Common.{map, Option, Some, None, refl, sym, ap, subst, ◌&&◌}
use Rattle.std.specs.Prelude.{is_none, take, MatchOption}
use Rattle.std.specs.List.{cons_option}
use Rattle.std.proofs.lemmas.List.{map-append}
use Rattle.qc_list.specs.Vocabulary.{In}
use Rattle.qc_list.proofs.Members.{In-more}
use Rattle.qc_decl.specs.declared.declaration.Declaration.{Declaration}
use Rattle.qc_decl.specs.Vocabulary.{most_record_bytes, plan_in}
use Rattle.qc_plan.specs.declared.standing.Verdict.{Verdict}
use Rattle.qc_plan.specs.declared.standing.Verdict.TheVariants as verdicts
use Rattle.qc_plan.specs.Vocabulary.{RoundState, note, verdict, wanted}
use Rattle.qc_plan.specs.declared.plan.Plan.{Plan}
use Rattle.qc_msg.specs.declared.call.Call.{Call}
use Rattle.qc_msg.specs.declared.message.Answer.{Answer}
use Rattle.qc_msg.specs.declared.message.Outcome.{Outcome}
use Rattle.qc_msg.specs.declared.message.Message.{Message}
use Rattle.qc_msg.specs.declared.step.Command.{Command}
use Rattle.qc_msg.specs.declared.step.Input.{Input}
use Rattle.qc_msg.specs.declared.step.Input.TheVariants as inputs
use Rattle.qc_msg.specs.Vocabulary.{epoch_length, quiet, sending, site_called, with_call, without_call, Answered}
use Rattle.qc_msg.specs.Vocabulary.{answer_in, epoch_in, request_in, wants_answer}
use Rattle.qc_epoch.specs.Vocabulary.{Admin, AdminMove, Asking, Closing, Doing, Installing, Question, Resting, ShutSite}
use Rattle.qc_epoch.specs.Vocabulary.{all_taken, decision, doing, first_doubt, in_asked_order, most_asks, moved}
use Rattle.qc_epoch.specs.Vocabulary.{numbered_first, outcome_in, questions_of, requested, sent_one, standing_of}
use Rattle.qc_epoch.specs.Vocabulary.{taken_for, with_installed, with_shut_of}
use Rattle.qc_msg.specs.declared.payload.EpochStart.{EpochStart}
use Rattle.qc_epoch.specs.Conduct as conduct
use Rattle.qc_script.specs.Vocabulary.{is_request}
use Rattle.laws_turns.proofs.Fewer.{IsNotFor}
use Rattle.laws_turns.specs.Vocabulary.{IsAnswerTo}
use Rattle.qc_msg.specs.declared.reply.Reply.TheVariants as replies
use Rattle.laws_due.proofs.AdminNumbers.{DoingPlain, IsFresh, all_unnumbered, called_spares, fresh_among, fresh_spares}
use Rattle.laws_due.proofs.AdminNumbers.{none_numbered, number_if, numbers_in, open_in, open_numbers, spares_then}
use Rattle.laws_due.proofs.AdminNumbers.{still_spares, taken_spares, uncalled}
use Rattle.laws_due.proofs.PlainRounds.{ArePlain, IsLeft, left, plain_all, plain_noted}
use Rattle.laws_turns.proofs.ReadingCases.{mapped}
use Rattle.std.specs.Option.{option_map_or}

-- his calls

pub record KeepsCalls (IsSpared : ℕ → Type 0) (numbers : List ℕ) (move : AdminMove) : Type 0 where
  pub calls : (k : ℕ) → In k (open_numbers move.admin.doing) → In k numbers × IsSpared k
  pub plain : DoingPlain move.admin.doing

abbrev IsOther : ℕ → ℕ → Type 0
IsOther n k = k ≡ n → ⊥

module _ (decl : Declaration) (m : Admin) where
  decides_fresh : (d : EpochStart) (closed : List ℕ) → IsFresh (conduct.decides decl m d closed).admin.doing
  decides_fresh d closed = by (nat_le (epoch_length d.lines) most_record_bytes)
    where
      by : (b : Bool) → IsFresh (cond b (moved
          (record { epoch = d.epoch; decided = Some d; doing = conduct.installing decl closed })
          (conduct.decide_turn decl d)) (conduct.replies_with m replies.Fault)).admin.doing
      by true = record { none = refl; plain = tt }
      by false = record { none = refl; plain = tt }

  settles_fresh : (epoch : ℕ) (shuts : List ShutSite) (questions : List Question)
      → IsFresh (conduct.settles decl m epoch shuts questions).admin.doing
  settles_fresh epoch shuts questions = by (first_doubt questions)
    where
      by : (o : Option Question) → IsFresh (conduct.settles_by decl m epoch shuts questions o).admin.doing
      by None = decides_fresh (decision epoch shuts questions) (map (λ (s : ShutSite). s.site) shuts)
      by (Some q) = record { none = refl; plain = tt }

  asks_fresh : (epoch : ℕ) (shuts : List ShutSite)
      → IsFresh (conduct.asks decl m epoch shuts (questions_of shuts)).admin.doing
  asks_fresh epoch shuts = by (length (questions_of shuts) == 0)
    where
      by : (b : Bool) → IsFresh (cond b (conduct.settles decl m epoch shuts (questions_of shuts))
          (moved (doing m (Asking epoch shuts (questions_of shuts)))
          (sending (map (conduct.ask_of decl) (take most_asks (questions_of shuts)))))).admin.doing
      by true = settles_fresh epoch shuts (questions_of shuts)
      by false = record { none = none_numbered (questions_of shuts) (all_unnumbered shuts [] tt); plain = tt }

  closes_keep : (epoch : ℕ) (calls : List Call) (round : RoundState) (shuts : List ShutSite) → ArePlain round.asked
      → ((k : ℕ) → In k (open_numbers (conduct.closes decl m epoch calls round shuts).admin.doing)
      → In k (numbers_in calls)) × DoingPlain (conduct.closes decl m epoch calls round shuts).admin.doing
  closes_keep epoch calls round shuts plain = by (verdict round) (left round plain)
    where
      by : (v : Verdict) → IsLeft v
          → ((k : ℕ) → In k (open_numbers (conduct.closes_by decl m epoch calls round shuts v).admin.doing)
          → In k (numbers_in calls)) × DoingPlain (conduct.closes_by decl m epoch calls round shuts v).admin.doing
      by verdicts.Waiting is = (λ k member. member, plain_all (wanted round) round plain)
      by verdicts.Met is =
          let fresh : IsFresh (conduct.asks decl m epoch (in_asked_order round.asked shuts)
          (questions_of (in_asked_order round.asked shuts))).admin.doing =
          asks_fresh epoch (in_asked_order round.asked shuts) in
          (fresh_among (numbers_in calls) _ fresh, fresh.plain)
      by (verdicts.Closed e site) is = absurd is
      by (verdicts.Clash tx site) is = absurd is
      by (verdicts.Short got need) is = (λ k member. absurd member, tt)

  stays_keeps : (n : ℕ) → DoingPlain m.doing → (In n (open_numbers m.doing) → ⊥)
      → KeepsCalls (IsOther n) (open_numbers m.doing) (moved m quiet)
  stays_keeps n plain none = record { calls = (still_spares n (open_numbers m.doing) none).kept; plain = plain }

  answered_keeps : (number : ℕ) (answer : Option Answer) (x : Doing) → m.doing ≡ x → DoingPlain x
      → KeepsCalls (IsOther number) (open_numbers x) (conduct.answered_in decl m x number answer)
  answered_keeps number answer Resting is plain =
      subst (λ (y : Doing). KeepsCalls (IsOther number) (open_numbers y) (moved m quiet)) is
      (stays_keeps number (subst DoingPlain (sym is) tt)
      (λ member. subst (λ (y : Doing). In number (open_numbers y)) is member))
  answered_keeps number answer (Closing epoch calls round shuts) is plain = by (site_called calls number) refl
    where
      by : (o : Option ℕ) → site_called calls number ≡ o
          → KeepsCalls (IsOther number) (numbers_in calls)
          (conduct.closing_takes decl m epoch calls round shuts number answer o)
      by None none =
          subst (λ (y : Doing). KeepsCalls (IsOther number) (open_numbers y) (moved m quiet)) is
          (stays_keeps number (subst DoingPlain (sym is) plain)
          (λ member. uncalled number calls none (subst (λ (y : Doing). In number (open_numbers y)) is member)))
      by (Some site) some =
          let next : ((k : ℕ) → In k (open_numbers
          (conduct.closes decl m epoch (without_call calls number) (note round site (standing_of answer))
          (with_shut_of shuts site answer)).admin.doing) → In k (numbers_in (without_call calls number)))
          × DoingPlain (conduct.closes decl m epoch (without_call calls number) (note round site (standing_of answer))
          (with_shut_of shuts site answer)).admin.doing =
          closes_keep epoch (without_call calls number) (note round site (standing_of answer))
          (with_shut_of shuts site answer) (plain_noted site answer round.asked plain) in
          record {
            calls = (spares_then number (numbers_in calls) (numbers_in (without_call calls number)) _
                (called_spares number calls) next.0).kept;
            plain = next.1;
          }
  answered_keeps number answer (Asking epoch shuts questions) is plain =
      by (all_taken (map (taken_for number (outcome_in answer)) questions))
    where
      by : (b : Bool) → KeepsCalls (IsOther number) (open_in questions)
          (cond b (conduct.settles decl m epoch shuts (map (taken_for number (outcome_in answer)) questions))
          (moved (doing m (Asking epoch shuts (map (taken_for number (outcome_in answer)) questions))) quiet))
      by true =
          let fresh : IsFresh (conduct.settles decl m epoch shuts
          (map (taken_for number (outcome_in answer)) questions)).admin.doing =
          settles_fresh epoch shuts (map (taken_for number (outcome_in answer)) questions) in
          record { calls = (fresh_spares number (open_in questions) _ fresh).kept; plain = fresh.plain }
      by false = record { calls = (taken_spares number (outcome_in answer) questions).kept; plain = tt }
  answered_keeps number answer (Installing closed awaited calls installed) is plain = by (site_called calls number) refl
    where
      ends : (site : ℕ) (b : Bool) → KeepsCalls (IsOther number) (numbers_in calls) (cond b
          (conduct.replies_with m (replies.Moved (conduct.site_set closed)
          (conduct.site_set (with_installed installed site answer))))
          (moved (doing m (Installing closed awaited (without_call calls number)
          (with_installed installed site answer))) quiet))
      ends site true = record { calls = λ k member. absurd member; plain = tt }
      ends site false = record { calls = (called_spares number calls).kept; plain = tt }

      by : (o : Option ℕ) → site_called calls number ≡ o
          → KeepsCalls (IsOther number) (numbers_in calls)
          (conduct.installing_takes m closed awaited calls installed number answer o)
      by None none =
          subst (λ (y : Doing). KeepsCalls (IsOther number) (open_numbers y) (moved m quiet)) is
          (stays_keeps number (subst DoingPlain (sym is) tt)
          (λ member. uncalled number calls none (subst (λ (y : Doing). In number (open_numbers y)) is member)))
      by (Some site) some = ends site (length (without_call calls number) == 0)

  start_plain : (epoch : ℕ) → ArePlain (conduct.close_round decl epoch).asked
  start_plain epoch = by (plan_in decl epoch)
    where
      by : (o : Option Plan) → ArePlain (conduct.close_round_by o).asked
      by None = tt
      by (Some p) = tt

  called_keeps : (command : Command) → DoingPlain m.doing
      → KeepsCalls (λ k. Unit {0}) (open_numbers m.doing) (conduct.called decl m command)
  called_keeps command plain =
      mapped (KeepsCalls (λ k. Unit {0}) (open_numbers m.doing)) (conduct.moves_to decl m) (moved m quiet)
      (epoch_in command) (λ number. by number (number == m.epoch) (number == m.epoch + 1))
      (record { calls = λ k member. (member, tt); plain = plain })
    where
      again : (o : Option EpochStart) → KeepsCalls (λ k. Unit {0}) (open_numbers m.doing) (conduct.again decl m o)
      again None = record { calls = λ k member. absurd member; plain = tt }
      again (Some d) = record { calls = λ k member. absurd member; plain = tt }

      by : (number : ℕ) (b c : Bool) → KeepsCalls (λ k. Unit {0}) (open_numbers m.doing)
          (cond b (conduct.again decl m m.decided)
          (cond c (conduct.closes decl m number [] (conduct.close_round decl m.epoch) [])
          (conduct.replies_with m (replies.Order m.epoch))))
      by number true c = again m.decided
      by number false true =
          let next : ((k : ℕ) → In k (open_numbers
          (conduct.closes decl m number [] (conduct.close_round decl m.epoch) []).admin.doing)
          → In k (numbers_in []))
          × DoingPlain (conduct.closes decl m number [] (conduct.close_round decl m.epoch) []).admin.doing =
          closes_keep number [] (conduct.close_round decl m.epoch) [] (start_plain m.epoch) in
          record { calls = λ k member. absurd (next.0 k member); plain = next.1 }
      by number false false = record { calls = λ k member. absurd member; plain = tt }

  heard_keeps : (message : Message) → DoingPlain m.doing
      → KeepsCalls (λ k. IsAnswerTo k message → ⊥) (open_numbers m.doing) (conduct.heard decl m message)
  heard_keeps message plain = by (answer_in message)
    where
      by : (o : Option Answered)
          → KeepsCalls (λ k. MatchOption o ⊥ (λ (a : Answered). a.to ≡ k) → ⊥) (open_numbers m.doing)
          (option_map_or (λ (a : Answered). conduct.answered decl m a.to (Some a.answer)) o (moved m quiet))
      by None = record { calls = λ k member. (member, λ none. none); plain = plain }
      by (Some a) =
          let kept : KeepsCalls (IsOther a.to) (open_numbers m.doing) (conduct.answered decl m a.to (Some a.answer)) =
          answered_keeps a.to (Some a.answer) m.doing refl plain in
          record {
            calls = λ k member. ((kept.calls k member).0, λ same. (kept.calls k member).1 (sym same));
            plain = kept.plain;
          }

  pub takes_keep : (g : Input) → DoingPlain m.doing
      → KeepsCalls (λ k. IsNotFor k g) (open_numbers m.doing) (conduct.admin_takes decl m g)
  takes_keep (inputs.Called command) plain = called_keeps command plain
  takes_keep (inputs.Got envelope) plain = heard_keeps envelope.message plain
  takes_keep (inputs.Lost number) plain = answered_keeps number None m.doing refl plain

-- a message of his

call_last : (calls : List Call) (n to k : ℕ) → In k (numbers_in (with_call calls n to))
    → In k (numbers_in calls) ⊎ (k ≡ n)
call_last calls n to k member = In-more k n (numbers_in calls)
    (subst (In k) (map-append (λ (c : Call). c.number) calls (record { number = n; site = to } ∷ [])) member)

question_last : (qs : List Question) (n k : ℕ) → In k (open_in (numbered_first qs n)) → In k (open_in qs) ⊎ (k ≡ n)
question_last [] n k member = absurd member
question_last (q ∷ qs) n k member = by q.number refl (question_last qs n k)
  where
    kept : (o : Option ℕ) → In k (cons_option o (open_in (numbered_first qs n)))
        → (In k (open_in (numbered_first qs n)) → In k (open_in qs) ⊎ (k ≡ n))
        → In k (cons_option o (open_in qs)) ⊎ (k ≡ n)
    kept None there more = more there
    kept (Some x) (inl same) more = inl (inl same)
    kept (Some x) (inr there) more = elim (more there) [ inl old ↦ inl (inr old) | inr new ↦ inr new ]

    fresh : (t : Option (Option Outcome)) → In k (cons_option (number_if t (Some n)) (open_in qs))
        → In k (cons_option (number_if t None) (open_in qs)) ⊎ (k ≡ n)
    fresh None (inl same) = inr same
    fresh None (inr there) = inl there
    fresh (Some t) there = inl there

    by : (o : Option ℕ) → q.number ≡ o → (In k (open_in (numbered_first qs n)) → In k (open_in qs) ⊎ (k ≡ n))
        → In k (open_in (q ∷ qs)) ⊎ (k ≡ n)
    by None is more = subst (λ (v : Option ℕ). In k (cons_option (number_if q.taken v) (open_in qs)) ⊎ (k ≡ n)) (sym is)
        (fresh q.taken (subst (λ (b : Bool). In k
        (open_in (cond b (record q { number = Some n } ∷ qs) (q ∷ numbered_first qs n))))
        (ap (λ (v : Option ℕ). is_none v) is) member))
    by (Some x) is more = kept (number_if q.taken q.number)
        (subst (λ (b : Bool). In k (open_in (cond b (record q { number = Some n } ∷ qs) (q ∷ numbered_first qs n))))
        (ap (λ (v : Option ℕ). is_none v) is) member) more

requested_numbers : (x : Doing) (n to k : ℕ) → In k (open_numbers (requested x n to)) → In k (open_numbers x) ⊎ (k ≡ n)
requested_numbers Resting n to k member = absurd member
requested_numbers (Closing epoch calls round shuts) n to k member = call_last calls n to k member
requested_numbers (Asking epoch shuts questions) n to k member = question_last questions n k member
requested_numbers (Installing closed awaited calls installed) n to k member = call_last calls n to k member

requested_plain : (x : Doing) (n to : ℕ) → DoingPlain x → DoingPlain (requested x n to)
requested_plain Resting n to plain = tt
requested_plain (Closing epoch calls round shuts) n to plain = plain
requested_plain (Asking epoch shuts questions) n to plain = tt
requested_plain (Installing closed awaited calls installed) n to plain = tt

pub record SendsCall (m : Admin) (n : ℕ) (message : Message) (after : Admin) : Type 0 where
  pub calls : (k : ℕ) → In k (open_numbers after.doing)
      → In k (open_numbers m.doing) ⊎ ((k ≡ n) × (is_request message ≡ true))
  pub plain : DoingPlain m.doing → DoingPlain after.doing

asked_more : (m : Admin) (n to : ℕ) (message : Message) → is_request message ≡ true
    → SendsCall m n message (doing m (requested m.doing n to))
asked_more m n to message is = record {
  calls = λ k member. elim (requested_numbers m.doing n to k member) [ inl old ↦ inl old | inr new ↦ inr (new, is) ];
  plain = requested_plain m.doing n to;
}

pub sent_call : (m : Admin) (n to : ℕ) (message : Message) → SendsCall m n message (sent_one m n to message)
sent_call m n to message = by (wants_answer message) (is_none (request_in message)) refl
  where
    by : (asks other : Bool) → is_request message ≡ asks
        → SendsCall m n message (cond (asks && other) (doing m (requested m.doing n to)) m)
    by true true is = asked_more m n to message is
    by true false is = record { calls = λ k member. inl member; plain = λ plain. plain }
    by false other is = record { calls = λ k member. inl member; plain = λ plain. plain }
