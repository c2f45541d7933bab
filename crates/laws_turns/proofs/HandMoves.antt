-- What a desk's move does with the transaction that it has in hand: it waits on, commits it, or aborts it.
use Rattle.std.proofs.Common.{◌≡◌, ◌≤◌, ◌<◌, ◌⊎◌, inl, inr, ℕ, ◌==◌, Bool, true, false, cond, List, [], ◌∷◌, ◌++◌, map}
use Rattle.std.proofs.Common.{length, Option, Some, None, option_map, refl, sym, ap, subst, arith}
use Rattle.std.specs.List.{AllByRecursion as Every}
use Rattle.qc_stamp.specs.declared.stamp.Stamp.{Stamp}
use Rattle.qc_entry.specs.declared.record.Commit.{Commit}
use Rattle.qc_decl.specs.declared.declaration.Declaration.{Declaration}
use Rattle.qc_msg.specs.declared.begun.Begun.{Begun}
use Rattle.qc_msg.specs.declared.message.Answer.{Answer}
use Rattle.qc_msg.specs.declared.reply.AbortCause.{AbortCause}
use Rattle.qc_msg.specs.declared.turn.Posting.{Posting}
use Rattle.qc_msg.specs.Vocabulary.{quiet, sending, site_called, without_call}
use Rattle.qc_commit.specs.declared.desk.Desk.{Desk}
use Rattle.qc_commit.specs.declared.desk.Voting.{Voting}
use Rattle.qc_commit.specs.Conduct as desks
use Rattle.qc_commit.specs.Vocabulary.{DeskMove, abort_turn, are_cast, blank, cast, commit_of, commit_turn}
use Rattle.qc_commit.specs.Vocabulary.{first_against, moved as desk_moved, participants, prepares, vote_of}
use Rattle.qc_commit.proofs.Learned.{learned-above, learned-client, learned-commits}
use Rattle.laws_turns.proofs.FrontGoesOn.{IsRequestFor}

-- the desk waits for votes on this transaction
abbrev pub Holds : Option Voting → Begun → Type 0
Holds voting b = option_map (λ (v : Voting). v.begun) voting ≡ Some b

pub record WaitsOn (desk : Desk) (b : Begun) (m : DeskMove) : Type 0 where
  pub told : m.turn.told ≡ None
  pub write : m.turn.write ≡ None
  pub sends : Every (λ (p : Posting). IsRequestFor (Some b.tx) p.message) m.turn.sends
  pub commits : m.desk.commits ≡ desk.commits
  pub clock : desk.clock.value ≤ m.desk.clock.value
  pub client : m.desk.client ≡ desk.client
  pub voting : Holds m.desk.voting b

pub record CommitsIt (desk : Desk) (b : Begun) (m : DeskMove) : Type 0 where
  pub stamp : Stamp
  pub turn : m.turn ≡ commit_turn stamp b
  pub commits : m.desk.commits ≡ desk.commits ++ commit_of stamp b ∷ []
  pub clock : desk.clock.value < stamp.clock
  pub passed : m.desk.clock.value ≡ stamp.clock
  pub stamped : stamp.client ≡ desk.client
  pub client : m.desk.client ≡ desk.client
  pub voting : m.desk.voting ≡ None

pub record AbortsIt (desk : Desk) (b : Begun) (m : DeskMove) : Type 0 where
  pub why : AbortCause
  pub turn : m.turn ≡ abort_turn b why
  pub commits : m.desk.commits ≡ desk.commits
  pub clock : desk.clock.value ≤ m.desk.clock.value
  pub client : m.desk.client ≡ desk.client
  pub voting : m.desk.voting ≡ None

abbrev pub IsHandMove : Desk → Begun → DeskMove → Type 0
IsHandMove desk b m = WaitsOn desk b m ⊎ (CommitsIt desk b m ⊎ AbortsIt desk b m)

decides-it : (desk learned : Desk) (b : Begun) → desk.clock.value ≤ learned.clock.value → learned.client ≡ desk.client
    → learned.commits ≡ desk.commits → IsHandMove desk b (desks.decides learned b)
decides-it desk learned b clock client same = inr (inl (record {
  stamp = desks.next_stamp learned;
  turn = refl;
  commits = ap (λ (cs : List Commit). cs ++ commit_of (desks.next_stamp learned) b ∷ []) same;
  clock = omega arith;
  passed = refl;
  stamped = client;
  client = client;
  voting = refl;
}))

out-it : (desk : Desk) (answer : Option Answer) (b : Begun) (o : Option AbortCause)
    → IsHandMove desk b (desks.counted_out (desks.learns desk answer) b o)
out-it desk answer b (Some why) = inr (inr
    (record {
      why = why;
      turn = refl;
      commits = learned-commits desk answer;
      clock = learned-above desk answer;
      client = learned-client desk answer;
      voting = refl;
    }))
out-it desk answer b None = decides-it desk (desks.learns desk answer) b (learned-above desk answer)
    (learned-client desk answer) (learned-commits desk answer)

pub vote-it : (desk : Desk) (v : Voting) (number : ℕ) (answer : Option Answer) → desk.voting ≡ Some v
    → IsHandMove desk v.begun (desks.vote desk number answer)
vote-it desk v number answer is = subst (λ (o : Option Voting). IsHandMove desk v.begun
    (desks.votes_in desk o number answer)) (sym is) (at (site_called v.calls number)) where
      by : (site : ℕ) (t : Bool) → IsHandMove desk v.begun
          (cond t (desks.counted_out (desks.learns desk answer) v.begun
          (first_against (cast v.ballots site (vote_of v.begun site answer))))
          (desk_moved (record (desks.learns desk answer) {
            voting = Some (record {
              begun = v.begun;
              calls = without_call v.calls number;
              ballots = cast v.ballots site (vote_of v.begun site answer);
            });
          }) quiet))
      by site true = out-it desk answer v.begun (first_against (cast v.ballots site (vote_of v.begun site answer)))
      by site false = inl (record {
        told = refl;
        write = refl;
        sends = tt;
        commits = learned-commits desk answer;
        clock = learned-above desk answer;
        client = learned-client desk answer;
        voting = refl;
      })

      at : (o : Option ℕ) → IsHandMove desk v.begun (desks.votes_at desk v number answer o)
      at None = inl (record {
        told = refl;
        write = refl;
        sends = tt;
        commits = refl;
        clock = omega arith;
        client = refl;
        voting = ap (λ (o : Option Voting). option_map (λ (w : Voting). w.begun) o) is;
      })
      at (Some site) = by site (are_cast (cast v.ballots site (vote_of v.begun site answer)))

pub prepare-it : (decl : Declaration) (desk : Desk) (b : Begun) (clock : ℕ)
    → IsHandMove desk b (desks.prepare decl desk b clock)
prepare-it decl desk b clock = by (length (participants decl desk.client b) == 0) where
  asked_for : (sites : List ℕ) → Every (λ (p : Posting). IsRequestFor (Some b.tx) p.message) (map (prepares b) sites)
  asked_for [] = tt
  asked_for (site ∷ sites) = (refl, asked_for sites)

  above : desk.clock.value ≤ (desks.passed desk clock).clock.value
  above = omega arith

  by : (t : Bool) → IsHandMove desk b (cond t (desks.decides (desks.passed desk clock) b)
      (desk_moved (record (desks.passed desk clock)
      { voting = Some (record { begun = b; calls = []; ballots = blank (participants decl desk.client b) }) })
      (sending (map (prepares b) (participants decl desk.client b)))))
  by true = decides-it desk (desks.passed desk clock) b above refl refl
  by false = inl (record {
    told = refl;
    write = refl;
    sends = asked_for (participants decl desk.client b);
    commits = refl;
    clock = above;
    client = refl;
    voting = refl;
  })
