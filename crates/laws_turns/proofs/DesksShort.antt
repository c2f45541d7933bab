-- A desk sends at most as many messages as there are sites.
use Rattle.std.proofs.Common.{◌≡◌, ℕ, ◌≤◌, ◌==◌, Bool, true, false, cond, List, [], length, map, Option, Some, None}
use Rattle.std.proofs.Common.{arith}
use Rattle.std.proofs.lemmas.List.{length-map}
use Rattle.qc_decl.specs.Vocabulary.{IsAccepted}
use Rattle.qc_decl.specs.declared.declaration.Declaration.{Declaration}
use Rattle.qc_msg.specs.declared.begun.Begun.{Begun}
use Rattle.qc_msg.specs.declared.call.Call.{Call}
use Rattle.qc_msg.specs.declared.message.Answer.{Answer}
use Rattle.qc_msg.specs.declared.message.Message.TheVariants as messages
use Rattle.qc_msg.specs.declared.message.Outcome.{Outcome}
use Rattle.qc_msg.specs.declared.message.Outcome.TheVariants.{Aborted, Committed}
use Rattle.qc_msg.specs.declared.reply.AbortCause.{AbortCause}
use Rattle.qc_msg.specs.Vocabulary.{decisions, quiet, sending, site_called, without_call}
use Rattle.qc_commit.specs.declared.ballot.Ballot.{Ballot}
use Rattle.qc_commit.specs.declared.desk.Desk.{Desk}
use Rattle.qc_commit.specs.declared.desk.Voting.{Voting}
use Rattle.qc_commit.specs.Vocabulary.{AsksFew, DeskMove, Prepares, are_cast, blank, cast, counted_out, counts, decides}
use Rattle.qc_commit.specs.Vocabulary.{first_against, learns, moved, next_stamp, participants, passed, prepare}
use Rattle.qc_commit.specs.Vocabulary.{prepares, vote, vote_of, votes_at, votes_in}
use Rattle.qc_commit.proofs.Aside.{few_sites_are_asked}
use Rattle.laws_turns.specs.Vocabulary.{AreSites, VotedSites}
use Rattle.laws_turns.proofs.Asked.{few_sites}

pub record IsDeskShort (decl : Declaration) (m : DeskMove) : Type 0 where
  pub asked : VotedSites decl m.desk.voting
  pub few : length m.turn.sends ≤ 16

sites_most : (decl : Declaration) (sites : List ℕ) → IsAccepted decl → AreSites decl sites → length sites ≤ 16
sites_most decl sites accepted are =
    let few : length sites ≤ decl.sites = few_sites decl sites are in
    let most : decl.sites ≤ 16 = accepted.sites in
    omega arith

verdicts_few : (decl : Declaration) (b : Begun) (verdict : Outcome) → IsAccepted decl → AreSites decl b.asked
    → length (decisions b verdict) ≤ 16
verdicts_few decl b verdict accepted are =
    let same : length (decisions b verdict) ≡ length b.asked =
    length-map b.asked (λ (site : ℕ). record { to = site; message = messages.Decision b.tx verdict }) in
    let few : length b.asked ≤ 16 = sites_most decl b.asked accepted are in
    omega arith

module _ (decl : Declaration) (accepted : IsAccepted decl) where
  decides_short : (desk : Desk) (b : Begun) → AreSites decl b.asked → IsDeskShort decl (decides desk b)
  decides_short desk b are = record { asked = tt; few = verdicts_few decl b (Committed (next_stamp desk)) accepted are }

  out_short : (desk : Desk) (b : Begun) (o : Option AbortCause) → AreSites decl b.asked
      → IsDeskShort decl (counted_out desk b o)
  out_short desk b (Some why) are = record { asked = tt; few = verdicts_few decl b Aborted accepted are }
  out_short desk b None are = decides_short desk b are

  counts_short : (desk : Desk) (b : Begun) (calls : List Call) (ballots : List Ballot) → AreSites decl b.asked
      → IsDeskShort decl (counts desk b calls ballots)
  counts_short desk b calls ballots are = by (are_cast ballots) where
    by : (t : Bool) → IsDeskShort decl (cond t (counted_out desk b (first_against ballots))
        (moved (record desk { voting = Some (record { begun = b; calls = calls; ballots = ballots }) }) quiet))
    by true = out_short desk b (first_against ballots) are
    by false = record { asked = are; few = omega arith }

  pub vote_short : (desk : Desk) (number : ℕ) (answer : Option Answer) → VotedSites decl desk.voting
      → IsDeskShort decl (vote desk number answer)
  vote_short desk number answer are = by desk.voting are where
    stays : IsDeskShort decl (moved desk quiet)
    stays = record { asked = are; few = omega arith }

    at : (v : Voting) → AreSites decl v.begun.asked → (o : Option ℕ)
        → IsDeskShort decl (votes_at desk v number answer o)
    at v here None = stays
    at v here (Some site) = counts_short (learns desk answer) v.begun (without_call v.calls number)
        (cast v.ballots site (vote_of v.begun site answer)) here

    by : (o : Option Voting) → VotedSites decl o → IsDeskShort decl (votes_in desk o number answer)
    by None here = stays
    by (Some v) here = at v here (site_called v.calls number)

  pub prepare_short : (desk : Desk) (b : Begun) (clock : ℕ) → AsksFew desk.voting → AreSites decl b.asked
      → IsDeskShort decl (prepare decl desk b clock)
  prepare_short desk b clock few are = by (length (participants decl desk.client b) == 0)
      (few_sites_are_asked desk (Prepares decl b clock) (accepted.has_site, accepted.sites) few) where
        by : (t : Bool) → AsksFew (cond t (decides (passed desk clock) b)
            (moved (record (passed desk clock) {
              voting =
                  Some (record { begun = b; calls = []; ballots = blank (participants decl desk.client b) });
            })
            (sending (map (prepares b) (participants decl desk.client b))))).desk.voting
            → IsDeskShort decl (cond t (decides (passed desk clock) b)
            (moved (record (passed desk clock) {
              voting =
                  Some (record { begun = b; calls = []; ballots = blank (participants decl desk.client b) });
            })
            (sending (map (prepares b) (participants decl desk.client b)))))
        by true low = decides_short (passed desk clock) b are
        by false low = record {
          asked = are;
          few =
              (let named : length (blank (participants decl desk.client b)) ≡ length (participants decl desk.client b) =
              length-map {B = Ballot} (participants decl desk.client b)
              (λ (site : ℕ). record { site = site; vote = None }) in
              let sent : length (map (prepares b) (participants decl desk.client b)) ≡ length
              (participants decl desk.client b) = length-map (participants decl desk.client b) (prepares b) in
              let most : length (blank (participants decl desk.client b)) ≤ 16 = low in
              omega arith);
        }
