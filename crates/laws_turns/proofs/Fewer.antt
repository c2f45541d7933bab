-- The open requests of a client after an input are ones that were open before, but not the one that the input answers.
use Rattle.std.proofs.Common.{◌≡◌, ℕ, ◌==◌, ◌⊎◌, Bool, true, if◌then◌else◌, inl, inr, List, [], ◌∷◌, ◌++◌, length}
use Rattle.std.proofs.Common.{Option, Some, None, is_some, refl, sym, ap, ◌∙◌, subst, MatchOption}
use Rattle.std.specs.Option.{option_map_or}
use Rattle.qc_list.specs.Vocabulary.{In}
use Rattle.qc_list.proofs.Members.{In-more}
use Rattle.qc_decl.specs.declared.declaration.Declaration.{Declaration}
use Rattle.qc_msg.specs.declared.begun.Begun.{Begun}
use Rattle.qc_msg.specs.declared.call.Call.{Call}
use Rattle.qc_msg.specs.declared.message.Answer.{Answer}
use Rattle.qc_msg.specs.declared.message.Message.{Message}
use Rattle.qc_msg.specs.declared.message.Message.TheVariants as messages
use Rattle.qc_msg.specs.declared.message.Want.{Want}
use Rattle.qc_msg.specs.declared.message.Want.TheVariants.{Read, Append, Prepare}
use Rattle.qc_msg.specs.declared.reply.AbortCause.{AbortCause}
use Rattle.qc_msg.specs.declared.step.Command.{Command}
use Rattle.qc_msg.specs.declared.step.Command.TheVariants as commands
use Rattle.qc_msg.specs.declared.step.Input.{Input}
use Rattle.qc_msg.specs.declared.step.Input.TheVariants as inputs
use Rattle.qc_msg.specs.Vocabulary.{site_called, without_call, Answered, quiet, Requested}
use Rattle.qc_commit.specs.declared.desk.Desk.{Desk}
use Rattle.qc_commit.specs.declared.desk.Voting.{Voting}
use Rattle.qc_commit.specs.Conduct as desks
use Rattle.qc_commit.specs.Vocabulary.{DeskMove, are_cast, cast, first_against, participants, vote_of}
use Rattle.qc_front.specs.declared.doing.Doing.{Doing}
use Rattle.qc_front.specs.declared.doing.Doing.TheVariants.{Idle, Reading, Appending}
use Rattle.qc_front.specs.declared.transaction.Transaction.{Transaction}
use Rattle.qc_front.specs.Conduct as fronts
use Rattle.qc_front.specs.Vocabulary.{calls_in, ended}
use Rattle.qc_client.specs.declared.client.Client.{Client}
use Rattle.qc_client.specs.Vocabulary.{ClientMove, answered, answered_by, by_desk, by_front, called, client_takes}
use Rattle.qc_client.specs.Vocabulary.{commits, heard, requested, sent_one, moved}
use Rattle.qc_script.specs.Vocabulary.{is_request}
use Rattle.laws_turns.specs.Vocabulary.{IsAnswerTo, calls_by, open_calls}
use Rattle.laws_turns.proofs.FrontAsks.{Asks, IsBound, front_called}
use Rattle.laws_turns.proofs.RequestsGone.{Leaves, Takes, front_takes, leaves_none, of_rest, unasked}
use Rattle.laws_turns.proofs.ClientCases.{called_cases, heard_cases}
use Rattle.laws_turns.proofs.MessageCases.{message_cases}
use Rattle.qc_list.proofs.Booleans.{if_two}

-- an input that doesn't answer a request, nor tells that it is lost
abbrev pub IsNotFor : ℕ → Input → Type 0
IsNotFor n (inputs.Called command) = Unit {0}
IsNotFor n (inputs.Got envelope) = IsAnswerTo n envelope.message → ⊥
IsNotFor n (inputs.Lost number) = n ≡ number → ⊥

pub record Keeps (c : Client) (IsSpared : ℕ → Type 0) (m : ClientMove) : Type 0 where
  pub calls : (q : Call) → In q (open_calls m.client) → In q (open_calls c) × IsSpared q.number
  pub bound : IsBound m.client.front

by_votes : (voting : Option Voting) (doing next : Doing) (q : Call) → (In q (calls_in next) → In q (calls_in doing))
    → In q (calls_by voting next) → In q (calls_by voting doing)
by_votes None doing next q among member = among member
by_votes (Some v) doing next q among member = member

ended_none : (c : Client) (m : DeskMove) → m.desk.voting ≡ None → is_some m.turn.told ≡ true
    → open_calls (by_desk c m).client ≡ []
ended_none c m none told =
    ap (λ (v : Option Voting). calls_by v (by_desk c m).client.front.doing) none
    ∙ ap (λ (t : Bool). calls_in (if t then ended c.front m.desk.clock.value m.desk.epoch else c.front).doing) told

desk_bound : (c : Client) (m : DeskMove) → IsBound c.front → IsBound (by_desk c m).client.front
desk_bound c m bound = if_two IsBound (is_some m.turn.told) (ended c.front m.desk.clock.value m.desk.epoch) c.front
    (λ none. refl) bound

decided_none : (c : Client) (desk : Desk) (b : Begun) (o : Option AbortCause)
    → open_calls (by_desk c (desks.counted_out desk b o)).client ≡ []
decided_none c desk b None = ended_none c (desks.counted_out desk b None) refl refl
decided_none c desk b (Some why) = ended_none c (desks.counted_out desk b (Some why)) refl refl

module _ (decl : Declaration) (c : Client) (bound : IsBound c.front) where
  called_by_front : (command : Command) → Keeps c (λ n. Unit {0}) (by_front c (fronts.called decl c.front command))
  called_by_front command =
      let asks : Asks (calls_in c.front.doing) (fronts.called decl c.front command) =
      front_called decl c.front command bound in
      record {
        calls = λ q member. (
          by_votes c.desk.voting c.front.doing
              (fronts.called decl c.front command).front.doing q (asks.among q) member,
          tt,
        );
        bound = asks.bound;
      }

  prepare_none : (b : Begun) (clock : ℕ) → open_calls (by_desk c (desks.prepare decl c.desk b clock)).client ≡ []
  prepare_none b clock =
      if_two (λ (m : DeskMove). open_calls (by_desk c m).client ≡ []) (length (participants decl c.desk.client b) == 0)
      (desks.decides (desks.passed c.desk clock) b) _
      (ended_none c (desks.decides (desks.passed c.desk clock) b) refl refl) refl

  commits_keeps : (o : Option Transaction) → Keeps c (λ n. Unit {0}) (commits decl c o)
  commits_keeps None = called_by_front commands.Commit
  commits_keeps (Some t) =
      if_two (Keeps c (λ n. Unit {0})) t.begun.doomed (by_front c (fronts.called decl c.front commands.Commit))
      (by_desk c (desks.prepare decl c.desk t.begun c.front.clock.value)) (called_by_front commands.Commit)
      (record {
        calls = λ q member. absurd (subst (In q) (prepare_none t.begun c.front.clock.value) member);
        bound = desk_bound c (desks.prepare decl c.desk t.begun c.front.clock.value) bound;
      })

  called_keeps : (command : Command) → Keeps c (λ n. Unit {0}) (called decl c command)
  called_keeps command =
      called_cases decl c (λ command m. Keeps c (λ n. Unit {0}) m) called_by_front (commits_keeps c.front.transaction)
      command

  votes_leave : (v : Voting) → c.desk.voting ≡ Some v → (number : ℕ) (answer : Option Answer) (o : Option ℕ)
      → site_called v.calls number ≡ o → Leaves v.calls number
      (open_calls (by_desk c (desks.votes_at c.desk v number answer o)).client)
  votes_leave v is number answer None none =
      subst (λ (w : Option Voting). Leaves v.calls number (calls_by w c.front.doing)) (sym is)
      (unasked v.calls number none)
  votes_leave v is number answer (Some site) some =
      if_two (λ (m : DeskMove). Leaves v.calls number (open_calls (by_desk c m).client))
      (are_cast (cast v.ballots site (vote_of v.begun site answer)))
      (desks.counted_out (desks.learns c.desk answer) v.begun
      (first_against (cast v.ballots site (vote_of v.begun site answer)))) _
      (leaves_none v.calls number _ (decided_none c (desks.learns c.desk answer) v.begun
      (first_against (cast v.ballots site (vote_of v.begun site answer)))))
      (of_rest v.calls number (without_call v.calls number) (λ q member. member))

  answered_keeps : (number : ℕ) (answer : Option Answer) → Keeps c (λ n. n ≡ number → ⊥) (answered decl c number answer)
  answered_keeps number answer = at c.desk.voting refl
    where
      at : (o : Option Voting) → c.desk.voting ≡ o → Keeps c (λ n. n ≡ number → ⊥) (answered_by decl c o number answer)
      at None none =
          let took : Takes c.front number (fronts.takes decl c.front number answer) =
          front_takes decl c.front number answer bound in
          let whole : open_calls c ≡ calls_in c.front.doing =
          ap (λ (w : Option Voting). calls_by w c.front.doing) none in
          let now : open_calls (by_front c (fronts.takes decl c.front number answer)).client ≡ calls_in
          (fronts.takes decl c.front number answer).front.doing =
          ap (λ (w : Option Voting). calls_by w (fronts.takes decl c.front number answer).front.doing) none in
          record {
            calls = λ q member. (
              subst (In q) (sym whole) (took.leaves.among q (subst (In q) now member)),
              took.leaves.gone q (subst (In q) now member),
            );
            bound = took.bound;
          }
      at (Some v) is =
          let whole : open_calls c ≡ v.calls = ap (λ (w : Option Voting). calls_by w c.front.doing) is in
          let left : Leaves v.calls number (open_calls (by_desk c (desks.vote c.desk number answer)).client) =
          subst (λ (w : Option Voting). Leaves v.calls number
          (open_calls (by_desk c (desks.votes_in c.desk w number answer)).client)) (sym is)
          (votes_leave v is number answer (site_called v.calls number) refl) in
          record {
            calls = λ q member. (subst (In q) (sym whole) (left.among q member), left.gone q member);
            bound = desk_bound c (desks.vote c.desk number answer) bound;
          }

  quiet_keeps : (m : ClientMove) (P : ℕ → Type 0) → m.client ≡ c → ((n : ℕ) → P n) → Keeps c P m
  quiet_keeps m P same all = record {
    calls = λ q member. (subst (λ (d : Client). In q (open_calls d)) same member, all q.number);
    bound = subst (λ (d : Client). IsBound d.front) (sym same) bound;
  }

  heard_keeps : (from number : ℕ) (m : Message) → Keeps c (λ n. IsAnswerTo n m → ⊥) (heard decl c from number m)
  heard_keeps from number m =
      heard_cases decl c from number (λ m move. Keeps c (λ n. IsAnswerTo n m → ⊥) move)
      (λ m none. quiet_keeps (moved c quiet) (λ n. IsAnswerTo n m → ⊥) refl
      (λ n. subst (λ (o : Option Answered). MatchOption o ⊥ (λ (a : Answered). a.to ≡ n) → ⊥) (sym none)
      (λ never. never)))
      (λ to answer. let kept : Keeps c (λ n. n ≡ to → ⊥) (answered decl c to (Some answer)) =
      answered_keeps to (Some answer) in
      record {
        calls = λ q member. ((kept.calls q member).0, λ is. (kept.calls q member).1 (sym is));
        bound = kept.bound;
      })
      (λ tx. quiet_keeps (heard decl c from number (messages.Inquiry tx)) (λ n. ⊥ → ⊥) refl (λ n never. never))
      (λ tx. quiet_keeps (heard decl c from number (messages.Ask tx)) (λ n. ⊥ → ⊥) refl (λ n never. never)) m

  pub takes_keeps : (g : Input) → Keeps c (λ n. IsNotFor n g) (client_takes decl c g)
  takes_keeps (inputs.Called command) = called_keeps command
  takes_keeps (inputs.Got envelope) = heard_keeps envelope.from envelope.number envelope.message
  takes_keeps (inputs.Lost number) = answered_keeps number None

-- a message of the client's: a request is open then, under its number

one_call_more : (calls : List Call) (number site : ℕ) (q : Call)
    → In q (calls ++ record { number = number; site = site } ∷ []) → In q calls ⊎ (q.number ≡ number)
one_call_more calls number site q member = at (In-more q (record { number = number; site = site }) calls member)
  where
    at : In q calls ⊎ (q ≡ record { number = number; site = site }) → In q calls ⊎ (q.number ≡ number)
    at (inl old) = inl old
    at (inr new) = inr (ap (λ (x : Call). x.number) new)

asked_calls : (doing : Doing) (number site : ℕ) (q : Call) → In q (calls_in (fronts.requested_in doing number site))
    → In q (calls_in doing) ⊎ (q.number ≡ number)
asked_calls Idle number site q member = absurd member
asked_calls (Reading object inv calls round) number site q member = one_call_more calls number site q member
asked_calls (Appending object inv event calls round) number site q member = one_call_more calls number site q member

asked_by : (voting : Option Voting) (doing : Doing) (number site : ℕ) (q : Call)
    → In q (calls_by voting (fronts.requested_in doing number site))
    → In q (calls_by voting doing) ⊎ (q.number ≡ number)
asked_by None doing number site q member = asked_calls doing number site q member
asked_by (Some v) doing number site q member = inl member

voted_by : (desk : Desk) (o : Option Voting) (doing : Doing) (number site : ℕ) (q : Call) → desk.voting ≡ o
    → In q (calls_by (desks.prepared_in desk o number site).voting doing)
    → In q (calls_by desk.voting doing) ⊎ (q.number ≡ number)
voted_by desk None doing number site q is member = inl member
voted_by desk (Some v) doing number site q is member = at (one_call_more v.calls number site q member)
  where
    at : In q v.calls ⊎ (q.number ≡ number) → In q (calls_by desk.voting doing) ⊎ (q.number ≡ number)
    at (inl old) = inl (subst (λ (w : Option Voting). In q (calls_by w doing)) (sym is) old)
    at (inr new) = inr new

-- a call that is new has this number, and the message is a request
abbrev pub IsNewCall : ℕ → Message → Call → Type 0
IsNewCall number m q = (q.number ≡ number) × (is_request m ≡ true)

pub record Sent (c : Client) (number : ℕ) (m : Message) (d : Client) : Type 0 where
  pub calls : (q : Call) → In q (open_calls d) → In q (open_calls c) ⊎ IsNewCall number m q
  pub bound : IsBound d.front

wanted : (c : Client) (number to : ℕ) (m : Message) (w : Want) → is_request m ≡ true → IsBound c.front
    → Sent c number m (requested c number to w)
wanted c number to m w request bound = by w
  where
    new : (q : Call) → In q (open_calls c) ⊎ (q.number ≡ number) → In q (open_calls c) ⊎ IsNewCall number m q
    new q (inl old) = inl old
    new q (inr is) = inr (is, request)

    by : (w : Want) → Sent c number m (requested c number to w)
    by (Read read) = record {
      calls = λ q member. new q (asked_by c.desk.voting c.front.doing number to q member);
      bound = λ none. ap (λ (d : Doing). fronts.requested_in d number to) (bound none);
    }
    by (Append object view own) = record {
      calls =
          λ q member. new q (asked_by c.desk.voting c.front.doing number to q member);
      bound = λ none. ap (λ (d : Doing). fronts.requested_in d number to) (bound none);
    }
    by Prepare = record {
      calls = λ q member. new q
          (voted_by c.desk c.desk.voting c.front.doing number to q refl member);
      bound = bound;
    }

pub sent_calls : (c : Client) (number to : ℕ) (m : Message) → IsBound c.front → Sent c number m (sent_one c number to m)
sent_calls c number to m bound =
    message_cases
    (λ m r a d i. Sent c number m (option_map_or (λ (q : Requested). requested c number to q.want) r c))
    (λ q. wanted c number to (messages.Request q.tx q.epoch q.life q.want) q.want refl bound)
    (λ a. record { calls = λ q member. inl member; bound = bound })
    (λ d. record { calls = λ q member. inl member; bound = bound })
    (λ tx. record { calls = λ q member. inl member; bound = bound })
    (λ m. record { calls = λ q member. inl member; bound = bound }) m
