-- Closes and Asks get their numbers: a round after what came of a request, as requests are numbered.
use Rattle.std.proofs.Common.{[], ◌≡◌, ℕ, ◌+◌, ◌==◌, Bool, true, false, cond, List, ◌∷◌, ◌++◌, length, map, take, Some}
use Rattle.std.proofs.Common.{refl, sym, ap, ◌∙◌, subst, append_assoc, arith}
use Rattle.std.proofs.lemmas.Bool.{ne_eqb}
use Rattle.std.proofs.lemmas.List.{append-nil}
use Rattle.qc_decl.specs.declared.declaration.Declaration.{Declaration}
use Rattle.qc_msg.specs.declared.call.Call.{Call}
use Rattle.qc_msg.specs.declared.turn.Turn.{Turn}
use Rattle.qc_msg.specs.Vocabulary.{calls_from, numbered_from, sending, site_called, with_call, without_call}
use Rattle.qc_plan.specs.declared.standing.Standing.{Standing}
use Rattle.qc_plan.specs.declared.standing.Verdict.TheVariants as verdicts
use Rattle.qc_plan.specs.Vocabulary.{RoundState, all_noted, asking_all, note, verdict, wanted}
use Rattle.qc_front.specs.Vocabulary.{IsAwaiting, IsRound, awaited, sites_called, sites_of}
use Rattle.qc_front.proofs.Apart.{AreApart}
use Rattle.qc_front.proofs.Awaited.{asking_awaits, asking_round, asking_waits}
use Rattle.qc_front.proofs.NotedRounds.{note_round, note_wants, round_apart}
use Rattle.qc_front.proofs.Noting.{awaits_some, no_calls, note_numbered, note_open, noted_awaits}
use Rattle.qc_epoch.specs.Vocabulary.{Admin, Asking, Closing, Doing, Installing, Resting, ShutSite, called, close_of}
use Rattle.qc_epoch.specs.Vocabulary.{doing, goes_on, most_asks, moved}
use Rattle.qc_admin.specs.Vocabulary.{AdminHolds, ClosingHolds, DoingHolds, IsNumberedAtOnce, numbered, numbered_all}
use Rattle.qc_admin.specs.Vocabulary.{sent_each}
use Rattle.qc_front.proofs.Numbering.{from_sites, from_ascends}

-- calls with consecutive numbers

some_calls : (calls : List Call) (sites : List ℕ) (first : ℕ) → (length calls == 0) ≡ false
    → numbered_from calls sites first ≡ calls
some_calls calls sites first some = ap (λ b. cond b (calls_from first sites) calls) some

no_none : (calls : List Call) → (calls ≡ [] → ⊥) → (length calls == 0) ≡ false
no_none [] some = absurd (some refl)
no_none (c ∷ cs) some = ne_eqb (length (c ∷ cs)) 0 (λ e. let never : ⊥ = omega arith in never)

-- what runs stays as it is where nothing new was asked

open_calls : (calls : List Call) (round : RoundState) → IsAwaiting round → sites_called calls ≡ awaited round
    → (length calls == 0) ≡ false
open_calls calls round awaits full =
    no_none calls (λ none. awaits_some round.asked awaits.open_still (sym full ∙ ap sites_called none))

stays : (decl : Declaration) (epoch : ℕ) (runs : Doing) (first : ℕ) → DoingHolds decl epoch runs
    → numbered runs first ≡ runs
stays decl epoch Resting first h = refl
stays decl epoch (Closing next calls round shuts) first h =
    ap (λ (cs : List Call). Closing next cs round shuts)
    (some_calls calls (awaited round) first (open_calls calls round h.awaits h.numbered))
stays decl epoch (Asking next shuts questions) first h =
    ap (λ b. Asking next shuts (cond b (numbered_all (length (take most_asks questions)) first questions) questions)) h
stays decl epoch (Installing closed awaits calls installed) first h =
    ap (λ (cs : List Call). Installing closed awaits cs installed) (some_calls calls awaits first h)

-- so it is where nothing is sent
pub unsent : (decl : Declaration) (m : Admin) (turn : Turn) → turn.sends ≡ [] → AdminHolds decl m
    → IsNumberedAtOnce decl (moved m turn)
unsent decl m turn none h = record {
  told = λ first. ap (sent_each m first) none ∙ ap (doing m) (sym (stays decl m.epoch m.doing first h));
  holds = λ first. subst (DoingHolds decl m.epoch) (sym (stays decl m.epoch m.doing first h)) h;
}

-- Closes get their numbers

closes_sent : (m : Admin) (next : ℕ) (calls : List Call) (round : RoundState) (shuts : List ShutSite) (first : ℕ)
    (sites : List ℕ)
    → sent_each (doing m (Closing next calls round shuts)) first (map (close_of next) sites)
    ≡ doing m (Closing next (calls ++ calls_from first sites) round shuts)
closes_sent m next calls round shuts first [] =
    ap (λ (cs : List Call). doing m (Closing next cs round shuts)) (sym (append-nil calls))
closes_sent m next calls round shuts first (s ∷ ss) =
    closes_sent m next (with_call calls first s) round shuts (first + 1) ss
    ∙ ap (λ (cs : List Call). doing m (Closing next cs round shuts))
    (append_assoc calls (record { number = first; site = s } ∷ []) (calls_from (first + 1) ss))

same_need : (decl : Declaration) (client epoch need : ℕ) (r : RoundState) → IsRound decl client epoch need r
    → IsRound decl client epoch r.need r
same_need decl client epoch need r is = record { weights = is.weights; need_is = refl; sites = is.sites }

-- a round that awaits nobody asks all that it wants
pub asks_new : (decl : Declaration) (m : Admin) (next : ℕ) (calls : List Call) (round : RoundState)
    (shuts : List ShutSite) → IsRound decl 0 m.epoch round.need round
    → verdict round ≡ verdicts.Waiting → calls ≡ [] → awaited round ≡ []
    → IsNumberedAtOnce decl (goes_on m next calls round shuts)
asks_new decl m next calls round shuts is waits none nobody = record {
  told = λ first.
      ap (λ (cs : List Call). sent_each (doing m (Closing next cs (asking_all round (wanted round)) shuts)) first
      (map (close_of next) (wanted round))) none
      ∙ closes_sent m next [] (asking_all round (wanted round)) shuts first (wanted round)
      ∙ ap (λ (ss : List ℕ). doing m (Closing next (calls_from first ss) (asking_all round (wanted round)) shuts))
      (sym asked)
      ∙ ap
      (λ (cs : List Call). doing m
      (Closing next (numbered_from cs (awaited (asking_all round (wanted round))) first)
      (asking_all round (wanted round)) shuts)) (sym none);
  holds = λ first.
      subst (λ (cs : List Call). ClosingHolds decl m.epoch
      (numbered_from cs (awaited (asking_all round (wanted round))) first) (asking_all round (wanted round)))
      (sym none)
      (record {
        round_is =
            same_need decl 0 m.epoch round.need (asking_all round (wanted round))
            (asking_round decl 0 m.epoch round.need round is);
        awaits = asking_waits round waits;
        calls_are = record {
          numbers = from_ascends first (awaited (asking_all round (wanted round)));
          sites =
              record {
                more = [];
                is = append-nil (sites_called (calls_from first (awaited (asking_all round (wanted round)))))
                    ∙ from_sites first (awaited (asking_all round (wanted round)));
              };
        };
        numbered = from_sites first (awaited (asking_all round (wanted round)));
      });
} where
  asked : awaited (asking_all round (wanted round)) ≡ wanted round
  asked = asking_awaits round ∙ ap (λ (ss : List ℕ). ss ++ wanted round) nobody

-- a round after what came of a request
pub asks_on : (decl : Declaration) (m : Admin) (next number site : ℕ) (standing : Standing) (calls : List Call)
    (round : RoundState) (shuts : List ShutSite)
    → ClosingHolds decl m.epoch calls round → site_called calls number ≡ Some site
    → verdict (note round site standing) ≡ verdicts.Waiting
    → IsNumberedAtOnce decl (goes_on m next (without_call calls number) (note round site standing) shuts)
asks_on decl m next number site standing calls round shuts h called waits =
    by (all_noted (note round site standing).asked) refl
  where
    apart : AreApart (sites_of round.asked)
    apart = round_apart decl 0 m.epoch round.need round h.round_is

    is : IsRound decl 0 m.epoch round.need (note round site standing)
    is = note_round decl 0 m.epoch round.need round site standing h.round_is

    full : sites_called (without_call calls number) ≡ awaited (note round site standing)
    full = note_numbered calls round number site standing h.calls_are called apart h.numbered

    by : (t : Bool) → all_noted (note round site standing).asked ≡ t
        → IsNumberedAtOnce decl (goes_on m next (without_call calls number) (note round site standing) shuts)
    by true all =
        let nobody : awaited (note round site standing) ≡ [] = noted_awaits (note round site standing).asked all in
        asks_new decl m next (without_call calls number) (note round site standing) shuts is waits
        (no_calls (without_call calls number) (full ∙ nobody)) nobody
    by false some =
        let none : wanted (note round site standing) ≡ [] = note_wants round site standing h.awaits some in
        subst (λ (sites : List ℕ). IsNumberedAtOnce decl
        (moved (doing m
        (Closing next (without_call calls number) (asking_all (note round site standing) sites) shuts))
        (sending (map (close_of next) sites)))) (sym none)
        (unsent decl (doing m (Closing next (without_call calls number) (note round site standing) shuts)) (sending [])
        refl
        (record {
          round_is = is;
          awaits = record { open_still = some; asked_all = none };
          calls_are = note_open calls round number site standing h.calls_are called apart;
          numbered = full;
        }))
