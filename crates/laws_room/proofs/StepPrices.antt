-- Steps cost one each, and a command pays for at most 3 and 18 for each site.
use Rattle.std.proofs.Common.{◌≡◌, ℕ, ◌+◌, ◌*◌, ◌≤◌, length, sum_by, arith}
use Rattle.qc_msg.specs.declared.message.Message.{Message}
use Rattle.qc_msg.specs.declared.message.Message.TheVariants as messages
use Rattle.qc_msg.specs.declared.message.Want.{Want}
use Rattle.qc_msg.specs.declared.message.Want.TheVariants.{Read, Append, Prepare}
use Rattle.qc_msg.specs.declared.step.Command.{Command}
use Rattle.qc_msg.specs.declared.step.Command.TheVariants as commands
use Rattle.qc_script.specs.declared.script.CommandLine.{CommandLine}
use Rattle.qc_script.specs.declared.script.PhaseLines.{PhaseLines}
use Rattle.qc_script.specs.declared.script.Script.{Script}
use Rattle.laws_room.specs.Vocabulary.{commands_of}
use Rattle.laws_room.proofs.Costs.{script_budget}
use Rattle.laws_room.proofs.Prices.{Prices, AreFair, budget}
use Rattle.laws_room.proofs.Sums.{constant, sum-le, sum-scaled, times-mul}
use Rattle.laws_room.proofs.Totals.{times}

-- A Read and an Append pay for eight steps once they are sent: they are taken, the answer is sent and taken, an Inquiry
-- is sent and taken, the Decision that answers it is sent and taken, and a Done is written.

abbrev pub request_credit : Want → ℕ
request_credit (Read read) = 8
request_credit (Append object view own) = 8
request_credit Prepare = 4

abbrev pub step_credit : Message → ℕ
step_credit (messages.Request tx epoch life want) = request_credit want
step_credit (messages.Answer to answer) = 1
step_credit (messages.Decision tx verdict) = 2
step_credit (messages.Inquiry tx) = 4
step_credit (messages.Ask tx) = 3
step_credit (messages.Close epoch) = 4
step_credit (messages.Install start) = 4

abbrev pub in_steps : Prices
in_steps =
    record {
      step = 1;
      written = λ r. 1;
      sent = λ m. 1;
      credit = step_credit;
      read = 9;
      append = 9;
      prepare = 5;
      decision = 3;
      commit = 1;
      operation = 0;
    }

three_asked : (want : Want) → 3 ≤ request_credit want
three_asked (Read read) = omega arith
three_asked (Append object view own) = omega arith
three_asked Prepare = omega arith

one_each : (m : Message) → 1 ≤ step_credit m
one_each (messages.Request tx epoch life want) = let low : 3 ≤ request_credit want = three_asked want in omega arith
one_each (messages.Answer to answer) = omega arith
one_each (messages.Decision tx verdict) = omega arith
one_each (messages.Inquiry tx) = omega arith
one_each (messages.Ask tx) = omega arith
one_each (messages.Close epoch) = omega arith
one_each (messages.Install start) = omega arith

pub steps_fair : AreFair in_steps
steps_fair =
    record {
      input = one_each;
      reads = λ tx epoch life read. omega arith;
      appends = λ tx epoch life object view own. omega arith;
      prepares = λ tx epoch life. omega arith;
      decides = λ tx verdict. omega arith;
      commits = λ c. omega arith;
      inquires = λ tx. omega arith;
      asks = λ tx number verdict. omega arith;
      replies = λ tx epoch life number want answer bare. (let low : 3 ≤ request_credit want = three_asked want in
          omega arith);
      grants = λ tx epoch life number read grant. omega arith;
      read_clashes = λ tx holder other epoch life number by event read. omega arith;
      append_clashes = λ tx holder other epoch life object number by event view own. omega arith;
      promises = λ tx epoch life number clock promise. omega arith;
      finishes = λ tx verdict clock. omega arith;
      closes = λ epoch number answer. omega arith;
      installs = λ start number answer. omega arith;
    }

-- what each command pays for, and all of a script

step_budget : (sites : ℕ) (c : Command) → budget in_steps sites c ≤ 3 + 18 * sites
step_budget sites c = by c
  where
    nine : times 9 sites ≡ sites * 9
    nine = times-mul 9 sites

    five : times 5 sites ≡ sites * 5
    five = times-mul 5 sites

    three : times 3 sites ≡ sites * 3
    three = times-mul 3 sites

    by : (c : Command) → budget in_steps sites c ≤ 3 + 18 * sites
    by commands.Begin = omega arith
    by (commands.Do object inv) = omega (arith, nine)
    by commands.Commit = omega (arith, five, three)
    by commands.Abort = omega (arith, three)
    by (commands.Epoch number) = omega arith

pub steps_paid : (sites : ℕ) (script : Script)
    → script_budget in_steps sites script.phases ≤ commands_of script * (3 + 18 * sites)
steps_paid sites script =
    let each : script_budget in_steps sites script.phases
    ≤ sum_by (λ (ph : PhaseLines). length ph.commands * (3 + 18 * sites)) script.phases =
    sum-le (λ (ph : PhaseLines). sum_by (λ (l : CommandLine). budget in_steps sites l.command) ph.commands)
    (λ (ph : PhaseLines). length ph.commands * (3 + 18 * sites)) script.phases in_phase in
    let all : sum_by (λ (ph : PhaseLines). length ph.commands * (3 + 18 * sites)) script.phases
    ≡ commands_of script * (3 + 18 * sites) =
    sum-scaled (λ (ph : PhaseLines). length ph.commands) (3 + 18 * sites) script.phases in
    omega arith
  where
    in_phase : (ph : PhaseLines) → sum_by (λ (l : CommandLine). budget in_steps sites l.command) ph.commands
        ≤ length ph.commands * (3 + 18 * sites)
    in_phase ph =
        let most : sum_by (λ (l : CommandLine). budget in_steps sites l.command) ph.commands
        ≤ sum_by (λ (l : CommandLine). 3 + 18 * sites) ph.commands =
        sum-le (λ (l : CommandLine). budget in_steps sites l.command) (λ (l : CommandLine). 3 + 18 * sites) ph.commands
        (λ l. step_budget sites l.command) in
        let same : sum_by (λ (l : CommandLine). 3 + 18 * sites) ph.commands ≡ length ph.commands * (3 + 18 * sites) =
        constant (3 + 18 * sites) ph.commands in
        omega arith
