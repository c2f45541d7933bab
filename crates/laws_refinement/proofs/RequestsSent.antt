-- A request of a client's turn is one of what runs there, with its number.
use Rattle.std.specs.Prelude.{MatchOption}
use Rattle.std.proofs.Common.{[], ◌≡◌, ℕ, inl, inr, List, ◌∷◌, Option, Some, None, sym, ap, ◌∙◌, subst}
use Rattle.qc_stamp.specs.declared.stamp.TxId.{TxId}
use Rattle.qc_list.specs.Vocabulary.{In}
use Rattle.qc_decl.specs.declared.declaration.Declaration.{Declaration}
use Rattle.qc_msg.specs.declared.call.Call.{Call}
use Rattle.qc_msg.specs.declared.message.Envelope.{Envelope}
use Rattle.qc_msg.specs.declared.message.Message.{Message}
use Rattle.qc_msg.specs.declared.message.Message.TheVariants as messages
use Rattle.qc_msg.specs.declared.message.Want.{Want}
use Rattle.qc_msg.specs.declared.message.Want.TheVariants.{Read, Append, Prepare}
use Rattle.qc_msg.specs.Vocabulary.{Requested, life_of, request_in, with_call}
use Rattle.theory_machine.specs.Vocabulary.{State}
use Rattle.qc_commit.specs.declared.desk.Voting.{Voting}
use Rattle.qc_commit.specs.Vocabulary.{prepared, prepared_in, with_voting}
use Rattle.qc_front.specs.declared.doing.Doing.{Doing}
use Rattle.qc_front.specs.declared.doing.Doing.TheVariants.{Idle, Reading, Appending}
use Rattle.qc_front.specs.declared.transaction.Transaction.{Transaction}
use Rattle.qc_front.specs.Vocabulary.{IsFor, calls_in, requested, requested_in}
use Rattle.qc_client.specs.declared.client.Client.{Client}
use Rattle.laws_refinement.specs.Vocabulary.{AreVotes, BegunMirrors, ClientMirrors, IsAskedBy, IsChosen, IsMessage}
use Rattle.laws_refinement.specs.Vocabulary.{IsRequest, IsRoundCounted, RunningMirrors, TransactionMirrors, VotesMirror}
use Rattle.laws_refinement.specs.Vocabulary.{status_by}
use Rattle.qc_list.proofs.Members.{In-either}

module _ (decl : Declaration) where
  -- a request of a client's turn is one of what runs there
  abbrev pub IsWantOf : Client → Transaction → ℕ → Want → Type 0
  IsWantOf c t site (Read read) = IsFor decl t c.front.doing site (Read read)
  IsWantOf c t site (Append object view own) = IsFor decl t c.front.doing site (Append object view own)
  IsWantOf c t site Prepare = (v : Voting) × (c.desk.voting ≡ Some v)

  pub record AsksFor (c : Client) (tx : TxId) (epoch life to : ℕ) (want : Want) : Type 0 where
    pub t : Transaction
    pub is : c.front.transaction ≡ Some t
    pub its : tx ≡ t.begun.tx
    pub epoch_is : epoch ≡ t.begun.epoch
    pub life_is : life ≡ life_of t.begun.lives to
    pub for : IsWantOf c t to want

  abbrev pub IsAsking : Client → ℕ → Message → Type 0
  IsAsking c to message =
      MatchOption (request_in message) (Unit {0}) (λ (q : Requested). AsksFor c q.tx q.epoch q.life to q.want)

  -- a request of the running round gets its number

  chosen_more : (w : State) (t : Transaction) (d : Doing) (n to : ℕ) → IsChosen decl w t d
      → IsChosen decl w t (requested_in d n to)
  chosen_more w t Idle n to h = h
  chosen_more w t (Reading object inv calls round) n to h = h
  chosen_more w t (Appending object inv event calls round) n to h = h

  counted_more : (w : State) (t : Transaction) (d : Doing) (n to : ℕ) → IsRoundCounted decl w t d
      → IsRoundCounted decl w t (requested_in d n to)
  counted_more w t Idle n to h = h
  counted_more w t (Reading object inv calls round) n to h = h
  counted_more w t (Appending object inv event calls round) n to h = h

  pub for_more : (t : Transaction) (d : Doing) (n to site : ℕ) (want : Want) → IsFor decl t d site want
      → IsFor decl t (requested_in d n to) site want
  for_more t Idle n to site want h = h
  for_more t (Reading object inv calls round) n to site want h = h
  for_more t (Appending object inv event calls round) n to site want h = h

  calls_more : (ms : List Envelope) (t : Transaction) (d : Doing) (n to : ℕ) (want : Want) → IsFor decl t d to want
      → IsMessage ms n to (messages.Request t.begun.tx t.begun.epoch (life_of t.begun.lives to) want)
      → ((call : Call) → In call (calls_in d) → IsAskedBy decl ms t d call) → (call : Call)
      → In call (calls_in (requested_in d n to)) → IsAskedBy decl ms t (requested_in d n to) call
  calls_more ms t Idle n to want for r old call among = absurd for
  calls_more ms t (Reading object inv calls round) n to want for r old call among =
      elim (In-either call calls (record { number = n; site = to } ∷ []) among) [
        | inl h ↦ old call h
        | inr h ↦ elim h [
          | inl same ↦
              subst (λ (y : Call). IsAskedBy decl ms t (Reading object inv (with_call calls n to) round) y) (sym same)
              (want, r, for)
          | inr never ↦ absurd never
        ]
      ]
  calls_more ms t (Appending object inv event calls round) n to want for r old call among =
      elim (In-either call calls (record { number = n; site = to } ∷ []) among) [
        | inl h ↦ old call h
        | inr h ↦ elim h [
          | inl same ↦
              subst (λ (y : Call). IsAskedBy decl ms t (Appending object inv event (with_call calls n to) round) y)
              (sym same) (want, r, for)
          | inr never ↦ absurd never
        ]
      ]

  votes_more : (w : State) (ms : List Envelope) (c : Client) (t : Transaction) (n to : ℕ) (o : Option Voting)
      → AreVotes w ms c t o → AreVotes w ms (record c { front = requested c.front n to }) t o
  votes_more w ms c t n to None h = tt
  votes_more w ms c t n to (Some v) h =
      record {
        begun = h.begun;
        idle = ap (λ (d : Doing). requested_in d n to) h.idle;
        clock = h.clock;
        each = h.each;
        voted = h.voted;
        calls = h.calls;
      }

  pub round_sent : (w : State) (ms : List Envelope) (a : ℕ) (c : Client) (n to : ℕ) (t : Transaction) (want : Want)
      → ClientMirrors decl w ms a c → c.front.transaction ≡ Some t → IsFor decl t c.front.doing to want
      → IsMessage ms n to (messages.Request t.begun.tx t.begun.epoch (life_of t.begun.lives to) want)
      → ClientMirrors decl w ms a (record c { front = requested c.front n to })
  round_sent w ms a c n to t want m is for r =
      let h : TransactionMirrors w c.front t × RunningMirrors decl w ms c t =
      subst (λ (x : Option Transaction). BegunMirrors decl w ms c x) is m.begun in
      record {
        own =
            record {
              actor = m.own.actor;
              desk = m.own.desk;
              lives_to_come = m.own.lives_to_come;
              epoch = m.own.epoch;
              desk_epoch = m.own.desk_epoch;
              clock = m.own.clock;
              to_come = m.own.to_come;
              committed = m.own.committed;
              aborted = m.own.aborted;
            };
        begun =
            subst (λ (x : Option Transaction). BegunMirrors decl w ms (record c { front = requested c.front n to }) x)
            (sym is) (
              record {
                named = h.0.named;
                epoch = h.0.epoch;
                lives = h.0.lives;
                ops = h.0.ops;
                own = h.0.own;
                sorted = h.0.sorted;
                shown = h.0.shown;
                whole = h.0.whole;
              },
              record {
                status_is = h.1.status_is;
                chosen = chosen_more w t c.front.doing n to h.1.chosen;
                counted = counted_more w t c.front.doing n to h.1.counted;
                calls = calls_more ms t c.front.doing n to want for r h.1.calls;
                votes = votes_more w ms c t n to c.desk.voting h.1.votes;
              },
            );
      }

  -- so does a Prepare

  pub prepare_sent : (w : State) (ms : List Envelope) (a : ℕ) (c : Client) (n to : ℕ) (t : Transaction) (v : Voting)
      → ClientMirrors decl w ms a c → c.front.transaction ≡ Some t → c.desk.voting ≡ Some v
      → IsRequest ms n to t.begun.tx Prepare
      → ClientMirrors decl w ms a (record c { desk = prepared c.desk n to })
  prepare_sent w ms a c n to t v m is voted r =
      subst (λ (o : Option Voting). ClientMirrors decl w ms a (record c { desk = prepared_in c.desk o n to }))
      (sym voted) (record {
        own =
            record {
              actor = m.own.actor;
              desk = m.own.desk;
              lives_to_come = m.own.lives_to_come;
              epoch = m.own.epoch;
              desk_epoch = m.own.desk_epoch;
              clock = m.own.clock;
              to_come = m.own.to_come;
              committed = m.own.committed;
              aborted = m.own.aborted;
            };
        begun =
            subst (λ (x : Option Transaction). BegunMirrors decl w ms
            (record c { desk = with_voting c.desk (Some (record v { calls = with_call v.calls n to })) }) x) (sym is) (
              record {
                named = h.0.named;
                epoch = h.0.epoch;
                lives = h.0.lives;
                ops = h.0.ops;
                own = h.0.own;
                sorted = h.0.sorted;
                shown = h.0.shown;
                whole = h.0.whole;
              },
              record {
                status_is = h.1.status_is ∙ ap (λ (o : Option Voting). status_by o) voted;
                chosen = h.1.chosen;
                counted = h.1.counted;
                calls = h.1.calls;
                votes = record {
                  begun = vm.begun;
                  idle = vm.idle;
                  clock = vm.clock;
                  each = vm.each;
                  voted = vm.voted;
                  calls = calls;
                };
              },
            );
      })
    where
      h : TransactionMirrors w c.front t × RunningMirrors decl w ms c t
      h = subst (λ (x : Option Transaction). BegunMirrors decl w ms c x) is m.begun

      vm : VotesMirror w ms c t v
      vm =
          subst (λ (o : Option Voting). AreVotes w ms c t o) voted
          (subst (λ (x : Option Transaction). BegunMirrors decl w ms c x) is m.begun).1.votes

      calls : (call : Call) → In call (with_call v.calls n to) → IsRequest ms call.number call.site t.begun.tx Prepare
      calls call among = elim (In-either call v.calls (record { number = n; site = to } ∷ []) among) [
        | inl old ↦ vm.calls call old
        | inr new ↦ elim new [
          | inl same ↦ subst (λ (y : Call). IsRequest ms y.number y.site t.begun.tx Prepare) (sym same) r
          | inr never ↦ absurd never
        ]
      ]
