-- The clock and the known epoch never fall, and pass those of what counts.
use Rattle.std.proofs.Common.{◌≡◌, ℕ, ◌≤◌, Option, Some, None, refl, sym, ap, ◌∙◌, subst, arith}
use Rattle.qc_stamp.specs.declared.clock.Clock.{Clock}
use Rattle.qc_decl.specs.declared.declaration.Declaration.{Declaration}
use Rattle.qc_msg.specs.declared.message.Answer.{Answer}
use Rattle.qc_msg.specs.declared.message.Answer.TheVariants as answers
use Rattle.qc_msg.specs.declared.payload.Grant.{Grant}
use Rattle.qc_msg.specs.Vocabulary.{site_called, without_call}
use Rattle.qc_plan.specs.Vocabulary.{note, verdict}
use Rattle.qc_front.specs.declared.doing.Doing.{Doing}
use Rattle.qc_front.specs.declared.doing.Doing.TheVariants.{Idle, Reading, Appending}
use Rattle.qc_front.specs.declared.front.Front.{Front}
use Rattle.qc_front.specs.declared.transaction.Transaction.{Transaction}
use Rattle.qc_front.specs.Vocabulary.{Learns, appended_with, appending_takes, asked_at, asked_in, ended, learns}
use Rattle.qc_front.specs.Vocabulary.{read_with, reading_takes, standing_of, takes, takes_in}
use Rattle.qc_front.proofs.ClockMoves.{Keeps, append_by_keeps, read_by_keeps}

-- what is learned of what counts

learned_by : (front : Front) (site : ℕ) (answer : Option Answer) → Learns front (learns front answer) (Some site) answer
learned_by front site None =
    record {
      clock = omega arith;
      epoch = omega arith;
      granted = λ s g asked is. (let never : ⊥ = cc in absurd never);
      closed = λ s told asked is. (let never : ⊥ = cc in absurd never);
    }
learned_by front site (Some (answers.Granted grant)) = record {
  clock = omega arith;
  epoch = omega arith;
  granted =
      λ s g asked is. (let same : grant ≡ g = cc in
      let clock : grant.clock ≡ g.clock = ap (λ (x : Grant). x.clock) same in omega arith);
  closed = λ s told asked is. (let never : ⊥ = cc in absurd never);
}
learned_by front site (Some (answers.Closed epoch)) = record {
  clock = omega arith;
  epoch = omega arith;
  granted = λ s g asked is. (let never : ⊥ = cc in absurd never);
  closed = λ s told asked is. (let same : epoch ≡ told = cc in omega arith);
}
learned_by front site (Some (answers.Clash holder inv event)) =
    record {
      clock = omega arith;
      epoch = omega arith;
      granted = λ s g asked is. (let never : ⊥ = cc in absurd never);
      closed = λ s told asked is. (let never : ⊥ = cc in absurd never);
    }
learned_by front site (Some (answers.Behind epoch)) =
    record {
      clock = omega arith;
      epoch = omega arith;
      granted = λ s g asked is. (let never : ⊥ = cc in absurd never);
      closed = λ s told asked is. (let never : ⊥ = cc in absurd never);
    }
learned_by front site (Some (answers.Restarted now)) =
    record {
      clock = omega arith;
      epoch = omega arith;
      granted = λ s g asked is. (let never : ⊥ = cc in absurd never);
      closed = λ s told asked is. (let never : ⊥ = cc in absurd never);
    }
learned_by front site (Some answers.Stale) =
    record {
      clock = omega arith;
      epoch = omega arith;
      granted = λ s g asked is. (let never : ⊥ = cc in absurd never);
      closed = λ s told asked is. (let never : ⊥ = cc in absurd never);
    }
learned_by front site (Some answers.Fault) =
    record {
      clock = omega arith;
      epoch = omega arith;
      granted = λ s g asked is. (let never : ⊥ = cc in absurd never);
      closed = λ s told asked is. (let never : ⊥ = cc in absurd never);
    }
learned_by front site (Some (answers.Yes clock)) =
    record {
      clock = omega arith;
      epoch = omega arith;
      granted = λ s g asked is. (let never : ⊥ = cc in absurd never);
      closed = λ s told asked is. (let never : ⊥ = cc in absurd never);
    }
learned_by front site (Some (answers.Shut snapshot)) =
    record {
      clock = omega arith;
      epoch = omega arith;
      granted = λ s g asked is. (let never : ⊥ = cc in absurd never);
      closed = λ s told asked is. (let never : ⊥ = cc in absurd never);
    }
learned_by front site (Some answers.Installed) =
    record {
      clock = omega arith;
      epoch = omega arith;
      granted = λ s g asked is. (let never : ⊥ = cc in absurd never);
      closed = λ s told asked is. (let never : ⊥ = cc in absurd never);
    }
learned_by front site (Some (answers.Answered verdict)) =
    record {
      clock = omega arith;
      epoch = omega arith;
      granted = λ s g asked is. (let never : ⊥ = cc in absurd never);
      closed = λ s told asked is. (let never : ⊥ = cc in absurd never);
    }

nothing_learned : (front : Front) (answer : Option Answer) → Learns front front None answer
nothing_learned front answer = record {
  clock = omega arith;
  epoch = omega arith;
  granted = λ site g asked is. (let never : ⊥ = cc in absurd never);
  closed = λ site told asked is. (let never : ⊥ = cc in absurd never);
}

learned_move : (front after : Front) (site : ℕ) (answer : Option Answer) → Keeps (learns front answer) after
    → Learns front after (Some site) answer
learned_move front after site answer keeps =
    let l : Learns front (learns front answer) (Some site) answer = learned_by front site answer in
    record {
      clock = subst (λ (c : Clock). front.clock.value ≤ c.value) (sym keeps.clock) l.clock;
      epoch = subst (λ (e : ℕ). front.epoch ≤ e) (sym keeps.epoch) l.epoch;
      granted =
          λ s g asked is. subst (λ (c : Clock). g.clock ≤ c.value) (sym keeps.clock)
          (l.granted s g asked is);
      closed = λ s told asked is. subst (λ (e : ℕ). told ≤ e) (sym keeps.epoch) (l.closed s told asked is);
    }

takes_in_learns : (decl : Declaration) (front : Front) (doing : Doing) (t : Option Transaction) (number : ℕ)
    (answer : Option Answer)
    → Learns front (takes_in decl front doing t number answer).front (asked_in t doing number) answer
takes_in_learns decl front doing None number answer = nothing_learned front answer
takes_in_learns decl front Idle (Some t) number answer = nothing_learned front answer
takes_in_learns decl front (Reading object inv calls round) (Some t) number answer = by (site_called calls number)
  where
    by : (o : Option ℕ)
        → Learns front (reading_takes decl front t object inv calls round number answer o).front o answer
    by None = nothing_learned front answer
    by (Some site) =
        learned_move front _ site answer
        (read_by_keeps decl (learns front answer) (read_with t site object answer) object inv
        (without_call calls number) (note round site (standing_of answer))
        (verdict (note round site (standing_of answer))))
takes_in_learns decl front (Appending object inv event calls round) (Some t) number answer =
    by (site_called calls number)
  where
    by : (o : Option ℕ)
        → Learns front (appending_takes decl front t object inv event calls round number answer o).front o answer
    by None = nothing_learned front answer
    by (Some site) =
        learned_move front _ site answer
        (append_by_keeps decl (learns front answer) (appended_with t site answer) object inv event
        (without_call calls number) (note round site (standing_of answer))
        (verdict (note round site (standing_of answer))))

pub takes_learns : (decl : Declaration) (front : Front) (number : ℕ) (answer : Option Answer)
    → Learns front (takes decl front number answer).front (asked_at front number) answer
takes_learns decl front number answer = takes_in_learns decl front front.doing front.transaction number answer

-- an answer begins no transaction

pub learned_count : (front : Front) (answer : Option Answer) → (learns front answer).count ≡ front.count
learned_count front None = refl
learned_count front (Some (answers.Granted grant)) = refl
learned_count front (Some (answers.Clash holder inv event)) = refl
learned_count front (Some (answers.Closed epoch)) = refl
learned_count front (Some (answers.Behind epoch)) = refl
learned_count front (Some (answers.Restarted life)) = refl
learned_count front (Some answers.Stale) = refl
learned_count front (Some answers.Fault) = refl
learned_count front (Some (answers.Yes clock)) = refl
learned_count front (Some (answers.Shut snapshot)) = refl
learned_count front (Some answers.Installed) = refl
learned_count front (Some (answers.Answered verdict)) = refl

count_after : (front after : Front) (answer : Option Answer) → Keeps (learns front answer) after
    → after.count ≡ front.count
count_after front after answer k = k.count ∙ learned_count front answer

takes_in_count : (decl : Declaration) (front : Front) (doing : Doing) (t : Option Transaction) (number : ℕ)
    (answer : Option Answer) → (takes_in decl front doing t number answer).front.count ≡ front.count
takes_in_count decl front doing None number answer = refl
takes_in_count decl front Idle (Some t) number answer = refl
takes_in_count decl front (Reading object inv calls round) (Some t) number answer = by (site_called calls number)
  where
    by : (o : Option ℕ) → (reading_takes decl front t object inv calls round number answer o).front.count ≡ front.count
    by None = refl
    by (Some site) =
        count_after front _ answer
        (read_by_keeps decl (learns front answer) (read_with t site object answer) object inv
        (without_call calls number) (note round site (standing_of answer))
        (verdict (note round site (standing_of answer))))
takes_in_count decl front (Appending object inv event calls round) (Some t) number answer =
    by (site_called calls number)
  where
    by : (o : Option ℕ)
        → (appending_takes decl front t object inv event calls round number answer o).front.count ≡ front.count
    by None = refl
    by (Some site) =
        count_after front _ answer
        (append_by_keeps decl (learns front answer) (appended_with t site answer) object inv event
        (without_call calls number) (note round site (standing_of answer))
        (verdict (note round site (standing_of answer))))

pub takes_count : (decl : Declaration) (front : Front) (number : ℕ) (answer : Option Answer)
    → (takes decl front number answer).front.count ≡ front.count
takes_count decl front number answer = takes_in_count decl front front.doing front.transaction number answer

pub ended_clock : (front : Front) (clock epoch : ℕ)
    → (front.clock.value ≤ (ended front clock epoch).clock.value) × (front.epoch ≤ (ended front clock epoch).epoch)
ended_clock front clock epoch = (omega arith, omega arith)
