-- A client tells of each commit record that it writes, in the post that writes it, through its falls and rises.
use Rattle.std.proofs.Common.{◌≡◌, ℕ, ◌+◌, ◌-◌, Bool, true, false, List, [], ◌∷◌, ◌++◌, Option, Some, None, is_some}
use Rattle.std.proofs.Common.{refl, sym, ap, ◌∙◌, subst}
use Rattle.std.specs.List.{AllByRecursion as Every}
use Rattle.std.specs.Prelude.{MatchOption}
use Rattle.qc_core.specs.declared.actor.Actor.{Actor}
use Rattle.qc_core.specs.Vocabulary.{ActorMove, IsLawfulWithFalls, Lives, actor_after, actor_takes, down_takes}
use Rattle.qc_core.proofs.ByNumber.{client_risen}
use Rattle.qc_core.specs.Lives as lives
use Rattle.qc_client.specs.Vocabulary.{client_takes}
use Rattle.qc_decl.specs.Vocabulary.{is_client}
use Rattle.qc_decl.specs.declared.declaration.Declaration.{Declaration}
use Rattle.qc_entry.specs.declared.record.Commit.{Commit as CommitRecord}
use Rattle.qc_msg.specs.declared.record.Record.{Record}
use Rattle.qc_msg.specs.declared.record.Record.TheVariants.{Commit}
use Rattle.qc_msg.specs.declared.reply.Reply.{Reply}
use Rattle.qc_msg.specs.declared.step.Fall.{Fall}
use Rattle.qc_msg.specs.declared.step.Input.{Input}
use Rattle.qc_msg.specs.declared.step.Input.TheVariants as inputs
use Rattle.qc_msg.specs.declared.turn.Appended.{Appended}
use Rattle.qc_msg.specs.declared.turn.Appended.TheVariants as ends
use Rattle.qc_msg.specs.declared.turn.Posting.{Posting}
use Rattle.qc_msg.specs.declared.turn.Turn.{Turn}
use Rattle.qc_msg.specs.Vocabulary.{Deed, Falls, Rises, Sends, Takes, Tells, Writes, deeds_as, first_epoch, sends_of}
use Rattle.qc_msg.specs.Vocabulary.{commit_of, tells_of, turn_deeds, writes_of}
use Rattle.qc_promise.specs.Vocabulary.{account_taken}
use Rattle.laws_due.specs.Vocabulary.{Goes, IsDeclaredDeed, IsPlanned}
use Rattle.laws_due.specs.ByRows as rows
use Rattle.laws_due.proofs.Commands.{free_for}
use Rattle.laws_due.proofs.Lifelong.{client_lives}
use Rattle.laws_due.proofs.Standing.{IsAtInput, IsTied, Stands, account_is, actor_more, turn_is}
use Rattle.laws_due.proofs.Step.{inputs_are_answered_as_is_due}
use Rattle.laws_turns.proofs.ReadingCases.{matched_by}
use Rattle.laws_reach.specs.Vocabulary.{AreCommitsTold, IsRecordTold, TellsNext}
use Rattle.laws_reach.proofs.RecordCases.{commit_cases}

-- deeds behind deeds

next_more : (xs ys : List Deed) → TellsNext xs → TellsNext (xs ++ ys)
next_more [] ys next = absurd next
next_more (Takes g ∷ xs) ys next = absurd next
next_more (Writes written ∷ xs) ys next = absurd next
next_more (Sends number to message ∷ xs) ys next = next_more xs ys next
next_more (Tells reply ∷ xs) ys next = tt
next_more (Falls cause pending ∷ xs) ys next = absurd next
next_more (Rises kept ∷ xs) ys next = absurd next

record_more : (w : Record) (xs ys : List Deed) → IsRecordTold w xs → IsRecordTold w (xs ++ ys)
record_more w xs ys told =
    matched_by (Unit {0}) (Unit {0}) (λ (c : CommitRecord). TellsNext xs) (λ (c : CommitRecord). TellsNext (xs ++ ys))
    (commit_of w) (λ c next. next_more xs ys next) (λ none. none) told

both_told : (xs ys : List Deed) → AreCommitsTold xs → AreCommitsTold ys → AreCommitsTold (xs ++ ys)
both_told [] ys first second = second
both_told (Takes g ∷ xs) ys first second = (tt, both_told xs ys first.1 second)
both_told (Writes written ∷ xs) ys first second = (record_more written xs ys first.0, both_told xs ys first.1 second)
both_told (Sends number to message ∷ xs) ys first second = (tt, both_told xs ys first.1 second)
both_told (Tells reply ∷ xs) ys first second = (tt, both_told xs ys first.1 second)
both_told (Falls cause pending ∷ xs) ys first second = (tt, both_told xs ys first.1 second)
both_told (Rises kept ∷ xs) ys first second = (tt, both_told xs ys first.1 second)

-- a turn that tells where it writes a commit record

abbrev pub TellsCommits : Turn → Type 0
TellsCommits turn = (c : CommitRecord) → turn.write ≡ Some (Commit c) → is_some turn.told ≡ true

sends_told : (n : ℕ) (ps : List Posting) → AreCommitsTold (sends_of n ps)
sends_told n [] = tt
sends_told n (p ∷ ps) = (tt, sends_told (n + 1) ps)

tells_told : (o : Option Reply) → AreCommitsTold (tells_of o)
tells_told None = tt
tells_told (Some reply) = (tt, tt)

told_next : (n : ℕ) (ps : List Posting) (o : Option Reply) → is_some o ≡ true → TellsNext (sends_of n ps ++ tells_of o)
told_next n [] None is = absurd (let never : ⊥ = cc in never)
told_next n [] (Some reply) is = tt
told_next n (p ∷ ps) o is = told_next (n + 1) ps o is

turn_told : (n : ℕ) (turn : Turn) → TellsCommits turn → AreCommitsTold (turn_deeds n turn)
turn_told n turn tells = by turn.write refl
  where
    rest : AreCommitsTold (sends_of n turn.sends ++ tells_of turn.told)
    rest = both_told (sends_of n turn.sends) (tells_of turn.told) (sends_told n turn.sends) (tells_told turn.told)

    by : (w : Option Record) → turn.write ≡ w
        → AreCommitsTold (writes_of w ++ (sends_of n turn.sends ++ tells_of turn.told))
    by None is = rest
    by (Some r) is = (
      commit_cases
          (λ r o. turn.write ≡ Some r
          → MatchOption o (Unit {0}) (λ (c : CommitRecord). TellsNext (sends_of n turn.sends ++ tells_of turn.told)))
          (λ c is. told_next n turn.sends turn.told (tells c is)) (λ r none is. tt) r is,
      rest,
    )

falls_told : (o : Option Reply) (cause : Fall) (w : Option Record) → AreCommitsTold (tells_of o ++ Falls cause w ∷ [])
falls_told o cause w = both_told (tells_of o) (Falls cause w ∷ []) (tells_told o) (tt, tt)

post_told : (end : Appended) (n : ℕ) (turn : Turn) → TellsCommits turn → AreCommitsTold (deeds_as end n turn)
post_told ends.Done n turn tells = turn_told n turn tells
post_told ends.Failed n turn tells = both_told (sends_of n turn.failed_sends) (tells_of turn.failed_told ++ _ ∷ [])
    (sends_told n turn.failed_sends) (falls_told turn.failed_told _ turn.write)
post_told ends.Stopped n turn tells = falls_told turn.failed_told _ turn.write

-- the commands that one who is down takes, and what comes to it else, write nothing

down_tells : (g : Input) → TellsCommits (down_takes g)
down_tells (inputs.Called command) c is = let never : ⊥ = cc in absurd never
down_tells (inputs.Got envelope) c is = let never : ⊥ = cc in absurd never
down_tells (inputs.Lost number) c is = let never : ⊥ = cc in absurd never

module _ (decl : Declaration) (a : ℕ) (client : is_client decl a ≡ true) (planned : IsPlanned decl first_epoch) where
  -- the turn for an input, where the client is up, and where it is down

  up_tells : (before : List Deed) (s : IsTied decl a before) (g : Input)
      → (d : Goes decl 0 (account_taken (account_is decl a before) g) (client_takes decl s.state g))
      → TellsCommits (client_takes decl s.state g).turn
  up_tells before s g goes c is =
      ap (λ (o : Option Reply). is_some o)
      (goes.tells ∙ (subst (λ (o : Option Record). rows.AreByRows decl (account_taken (account_is decl a before) g)
      (writes_of o ++ (sends_of 0 (client_takes decl s.state g).turn.sends ++ tells_of
      (client_takes decl s.state g).turn.told))) is goes.due).0.0)

  taken_tells : (older : List Deed) → IsAtInput decl a older → TellsCommits (actor_after decl a older).turn
  taken_tells older at = subst (λ (m : ActorMove). TellsCommits m.turn)
      (sym (ap (actor_after decl a) at.is ∙ actor_more decl a at.before (Takes at.given ∷ [])))
      (by at.rest.up at.rest.stands)
    where
      by : (up : Bool) → Stands decl a up at.before
          → TellsCommits (actor_takes decl (actor_after decl a at.before).actor at.given).turn
      by true s =
          subst (λ (v : Actor). TellsCommits (actor_takes decl v at.given).turn) (sym s.actor)
          (up_tells at.before s at.given (inputs_are_answered_as_is_due decl 0
          (account_is decl a at.before) s.state s.holds at.given
          (free_for decl (a - decl.sites) at.before at.given at.may) s.ties))
      by false s = subst (λ (v : Actor). TellsCommits (actor_takes decl v at.given).turn) (sym s.actor)
          (down_tells at.given)

  -- the rising turn

  rises_tells : (ds : List Deed) (kept : List Record) → TellsCommits (actor_after decl a (ds ++ Rises kept ∷ [])).turn
  rises_tells ds kept =
      subst (λ (m : ActorMove). TellsCommits m.turn)
      (sym (actor_more decl a ds (Rises kept ∷ []) ∙ client_risen decl a client kept))
      (λ c is. let never : ⊥ = cc in absurd never)

  lawful_tells : (ds : List Deed) (turn : Turn) → IsLawfulWithFalls decl a ds turn
      → TellsCommits (actor_after decl a ds).turn → TellsCommits turn
  lawful_tells ds turn law tells = subst TellsCommits (turn_is decl a client ds turn law) tells

  -- over all its deeds

  first_all : (xs ys : List Deed) → Every (IsDeclaredDeed decl) (xs ++ ys) → Every (IsDeclaredDeed decl) xs
  first_all [] ys all = tt
  first_all (x ∷ xs) ys all = (all.0, first_all xs ys all.1)

  pub lives_told : (ds : List Deed) (b : Bool) (n : ℕ) → Lives decl a ds b n → Every (IsDeclaredDeed decl) ds
      → AreCommitsTold ds
  lives_told ds b n lives.starts all = tt
  lives_told ds b n (lives.takes older g m life may reach) all =
      both_told older (Takes g ∷ []) (lives_told older false m life (first_all older (Takes g ∷ []) all)) (tt, tt)
  lives_told ds b n (lives.posts older turn m first life low law) all =
      let declared : Every (IsDeclaredDeed decl) older = first_all older (deeds_as turn.append first turn) all in
      both_told older (deeds_as turn.append first turn) (lives_told older true m life declared)
      (post_told turn.append first turn (lawful_tells older turn law
      (taken_tells older (client_lives decl a client planned older true m life declared))))
  lives_told ds b n (lives.crashes older m life up) all =
      both_told older (Falls _ None ∷ []) (lives_told older false m life (first_all older (Falls _ None ∷ []) all))
      (tt, tt)
  lives_told ds b n (lives.rises older kept turn m first life down low law) all =
      both_told (older ++ Rises kept ∷ []) (deeds_as turn.append first turn)
      (both_told older (Rises kept ∷ []) (lives_told older false m life
      (first_all older (Rises kept ∷ []) (first_all (older ++ Rises kept ∷ [])
      (deeds_as turn.append first turn) all))) (tt, tt))
      (post_told turn.append first turn (lawful_tells (older ++ Rises kept ∷ []) turn law (rises_tells older kept)))
  lives_told ds b n (lives.unopened older cause m life down by_disk) all =
      both_told older (Falls cause None ∷ []) (lives_told older false m life
      (first_all older (Falls cause None ∷ []) all)) (tt, tt)
