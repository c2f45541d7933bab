-- No two open requests of a front end are for one site: they went to awaited sites of its round, which asked each once.
use Rattle.std.proofs.Common.{ℕ, List, Option, Some, None, sym, subst}
use Rattle.qc_decl.specs.declared.declaration.Declaration.{Declaration}
use Rattle.qc_msg.specs.declared.call.Call.{Call}
use Rattle.qc_plan.specs.Vocabulary.{RoundState}
use Rattle.qc_front.specs.declared.doing.Doing.{Doing}
use Rattle.qc_front.specs.declared.doing.Doing.TheVariants.{Idle, Reading, Appending}
use Rattle.qc_front.specs.declared.front.Front.{Front}
use Rattle.qc_front.specs.declared.transaction.Transaction.{Transaction}
use Rattle.qc_front.specs.Vocabulary.{AreOpen, BegunHolds, DoingHolds, FrontHolds, IsRound, calls_in, sites_called}
use Rattle.qc_front.proofs.Apart.{AreApart}
use Rattle.qc_front.proofs.Awaited.{unnoted}
use Rattle.qc_front.proofs.NotedRounds.{round_apart}
use Rattle.qc_front.proofs.Noting.{prefix_apart, unnoted_apart}

round_calls : (decl : Declaration) (client epoch need : ℕ) (calls : List Call) (r : RoundState)
    → IsRound decl client epoch need r → AreOpen calls r → AreApart (sites_called calls)
round_calls decl client epoch need calls r is o =
    prefix_apart (sites_called calls) (unnoted r.asked) o.sites
    (unnoted_apart r.asked (round_apart decl client epoch need r is))

pub doing_calls : (decl : Declaration) (client : ℕ) (t : Transaction) (d : Doing) → DoingHolds decl client t d
    → AreApart (sites_called (calls_in d))
doing_calls decl client t Idle holds = tt
doing_calls decl client t (Reading object inv calls round) holds =
    round_calls decl client _ _ calls round holds.round_is holds.calls_are
doing_calls decl client t (Appending object inv event calls round) holds =
    round_calls decl client _ _ calls round holds.round_is holds.calls_are

pub begun_calls : (decl : Declaration) (client : ℕ) (o : Option Transaction) (d : Doing) → BegunHolds decl client o d
    → AreApart (sites_called (calls_in d))
begun_calls decl client None d idle = subst (λ (x : Doing). AreApart (sites_called (calls_in x))) (sym idle) tt
begun_calls decl client (Some t) d holds = doing_calls decl client t d holds.1

pub sites_have_one_open_request : (decl : Declaration) (front : Front) → FrontHolds decl front
    → AreApart (sites_called (calls_in front.doing))
sites_have_one_open_request decl front holds =
    begun_calls decl front.client front.transaction front.doing holds
