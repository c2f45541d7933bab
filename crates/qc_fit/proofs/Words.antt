-- A record fits exactly where each of the sentences on its parts holds.
use Rattle.std.proofs.Common.{◌≡◌, ◌↔◌, ℕ, ◌≤◌, true, List, length}
use Rattle.std.specs.List.{AllByRecursion as Every, list_all}
use Rattle.qc_decl.specs.declared.declaration.Declaration.{Declaration}
use Rattle.qc_entry.specs.declared.line.Line.{Line}
use Rattle.qc_entry.specs.declared.line.Op.{Op}
use Rattle.qc_entry.specs.declared.line.OwnLine.{OwnLine}
use Rattle.qc_entry.specs.declared.line.ReadLock.{ReadLock}
use Rattle.qc_fit.specs.Vocabulary.{HasEvent, HasInvocation, HasPlan, IsFit, IsLineDeclared, IsOpDeclared, fits}
use Rattle.qc_fit.specs.Vocabulary.{greatest_clock, is_line_fit, is_lock_fit, is_op_fit, is_own_fit, is_start_fit}
use Rattle.qc_fit.proofs.Tests.{all_of, every_of, client_of, of_client, clock_of, of_clock, few_of, of_few, plan_of}
use Rattle.qc_fit.proofs.Tests.{of_plan, number_of, of_number, response_of, of_response, site_of, of_site}
use Rattle.qc_fit.proofs.Tests.{administrator_of, of_administrator, this_client_of, of_this_client, rises_of, of_rises}
use Rattle.qc_msg.specs.declared.record.Record.{Record}
use Rattle.qc_msg.specs.declared.record.Record.TheVariants as records
use Rattle.qc_table.specs.Vocabulary.{Rules, events_of}
use Rattle.qc_list.proofs.Booleans.{and_parts}
use Rattle.std.proofs.lemmas.Bool.{and_from}

-- parts

invocation_of : (decl : Declaration) (lock : ReadLock) → is_lock_fit decl lock ≡ true
    → HasInvocation decl lock.object lock.inv
invocation_of decl lock e = number_of decl (λ (t : Rules). t.invs) lock.object lock.inv e

of_invocation : (decl : Declaration) (lock : ReadLock) → HasInvocation decl lock.object lock.inv
    → is_lock_fit decl lock ≡ true
of_invocation decl lock h = of_number decl (λ (t : Rules). t.invs) lock.object lock.inv h

event_of : (decl : Declaration) (own : OwnLine) → is_own_fit decl own ≡ true → HasEvent decl own.object own.event
event_of decl own e = number_of decl (λ (t : Rules). length (events_of t.rows)) own.object own.event e

of_event : (decl : Declaration) (own : OwnLine) → HasEvent decl own.object own.event → is_own_fit decl own ≡ true
of_event decl own h = of_number decl (λ (t : Rules). length (events_of t.rows)) own.object own.event h

line_of : (decl : Declaration) (line : Line) → is_line_fit decl line ≡ true → IsLineDeclared decl line
line_of decl line e =
    let b = and_parts _ _ e in
    let c = and_parts _ _ b.1 in
    record {
      clock = clock_of line.stamp.clock b.0;
      client = client_of decl line.tx.client c.0;
      event = number_of decl (λ (t : Rules). length (events_of t.rows)) line.object line.event c.1;
    }

of_line : (decl : Declaration) (line : Line) → IsLineDeclared decl line → is_line_fit decl line ≡ true
of_line decl line h =
    and_from _ _ (of_clock line.stamp.clock h.clock)
    (and_from _ _ (of_client decl line.tx.client h.client)
    (of_number decl (λ (t : Rules). length (events_of t.rows)) line.object line.event h.event))

op_of : (decl : Declaration) (op : Op) → is_op_fit decl op ≡ true → IsOpDeclared decl op
op_of decl op e =
    let b = and_parts _ _ e in
    record {
      inv = number_of decl (λ (t : Rules). t.invs) op.object op.inv b.0;
      resp = response_of decl op.object op.resp b.1;
    }

of_op : (decl : Declaration) (op : Op) → IsOpDeclared decl op → is_op_fit decl op ≡ true
of_op decl op h = and_from _ _ (of_number decl (λ (t : Rules). t.invs) op.object op.inv h.inv)
    (of_response decl op.object op.resp h.resp)

lines_of : (decl : Declaration) (lines : List Line) → list_all (is_line_fit decl) lines ≡ true
    → Every (IsLineDeclared decl) lines
lines_of decl lines e = every_of (is_line_fit decl) (IsLineDeclared decl) (line_of decl) lines e

of_lines : (decl : Declaration) (lines : List Line) → Every (IsLineDeclared decl) lines
    → list_all (is_line_fit decl) lines ≡ true
of_lines decl lines every = all_of (is_line_fit decl) (IsLineDeclared decl) (of_line decl) lines every

record IsStart (decl : Declaration) (epoch clock : ℕ) (lines : List Line) : Type 0 where
  pub epoch_is : HasPlan decl epoch
  pub clock_is : clock ≤ greatest_clock
  pub lines_are : Every (IsLineDeclared decl) lines

start_of : (decl : Declaration) (epoch clock : ℕ) (lines : List Line) → is_start_fit decl epoch clock lines ≡ true
    → IsStart decl epoch clock lines
start_of decl epoch clock lines e =
    let b = and_parts _ _ e in
    let c = and_parts _ _ b.1 in
    record { epoch_is = plan_of decl epoch b.0; clock_is = clock_of clock c.0; lines_are = lines_of decl lines c.1 }

of_start : (decl : Declaration) (epoch clock : ℕ) (lines : List Line) → HasPlan decl epoch → clock ≤ greatest_clock
    → Every (IsLineDeclared decl) lines → is_start_fit decl epoch clock lines ≡ true
of_start decl epoch clock lines p c l = and_from _ _ (of_plan decl epoch p)
    (and_from _ _ (of_clock clock c) (of_lines decl lines l))

-- records

said : (decl : Declaration) (actor before : ℕ) (rec : Record) → fits decl actor before rec ≡ true
    → IsFit decl actor before rec
said decl actor before records.Life e =
    let b = and_parts _ _ e in
    record {
      few = few_of before b.0;
      writer = rises_of decl actor b.1;
      clients = tt;
      epochs = tt;
      clocks = tt;
      locks = tt;
      owns = tt;
      lines = tt;
      ops = tt;
    }
said decl actor before (records.Prepare p) e =
    let b = and_parts _ _ e in
    let s = and_parts _ _ b.1 in
    let c = and_parts _ _ s.1 in
    let h = and_parts _ _ c.1 in
    let k = and_parts _ _ h.1 in
    let o = and_parts _ _ k.1 in
    record {
      few = few_of before b.0;
      writer = site_of decl actor s.0;
      clients = (client_of decl p.tx.client c.0, tt);
      epochs = (plan_of decl p.epoch h.0, tt);
      clocks = tt;
      locks = every_of (is_lock_fit decl) (λ (lock : ReadLock). HasInvocation decl lock.object lock.inv)
          (invocation_of decl) p.locks k.0;
      owns = every_of (is_own_fit decl) (λ (own : OwnLine). HasEvent decl own.object own.event)
          (event_of decl) p.own o.0;
      lines = lines_of decl p.lines o.1;
      ops = tt;
    }
said decl actor before (records.Done tx clock) e =
    let b = and_parts _ _ e in
    let s = and_parts _ _ b.1 in
    let c = and_parts _ _ s.1 in
    record {
      few = few_of before b.0;
      writer = site_of decl actor s.0;
      clients = (client_of decl tx.client c.0, tt);
      epochs = tt;
      clocks = (clock_of clock c.1, tt);
      locks = tt;
      owns = tt;
      lines = tt;
      ops = tt;
    }
said decl actor before (records.Close epoch) e =
    let b = and_parts _ _ e in
    let s = and_parts _ _ b.1 in
    record {
      few = few_of before b.0;
      writer = site_of decl actor s.0;
      clients = tt;
      epochs = (plan_of decl epoch s.1, tt);
      clocks = tt;
      locks = tt;
      owns = tt;
      lines = tt;
      ops = tt;
    }
said decl actor before (records.Install start) e =
    let b = and_parts _ _ e in
    let s = and_parts _ _ b.1 in
    let i = start_of decl start.epoch start.clock start.lines s.1 in
    record {
      few = few_of before b.0;
      writer = site_of decl actor s.0;
      clients = tt;
      epochs = (i.epoch_is, tt);
      clocks = (i.clock_is, tt);
      locks = tt;
      owns = tt;
      lines = i.lines_are;
      ops = tt;
    }
said decl actor before (records.Commit c) e =
    let b = and_parts _ _ e in
    let s = and_parts _ _ b.1 in
    let o = and_parts _ _ s.1 in
    let w = this_client_of decl actor c.tx.client s.0 in
    record {
      few = few_of before b.0;
      writer = w.1;
      clients = (w.0, tt);
      epochs = tt;
      clocks = (clock_of c.stamp.clock o.0, tt);
      locks = tt;
      owns = tt;
      lines = tt;
      ops = every_of (is_op_fit decl) (IsOpDeclared decl) (op_of decl) c.ops o.1;
    }
said decl actor before (records.Decide start) e =
    let b = and_parts _ _ e in
    let s = and_parts _ _ b.1 in
    let i = start_of decl start.epoch start.clock start.lines s.1 in
    record {
      few = few_of before b.0;
      writer = administrator_of decl actor s.0;
      clients = tt;
      epochs = (i.epoch_is, tt);
      clocks = (i.clock_is, tt);
      locks = tt;
      owns = tt;
      lines = i.lines_are;
      ops = tt;
    }

fit : (decl : Declaration) (actor before : ℕ) (rec : Record) → IsFit decl actor before rec
    → fits decl actor before rec ≡ true
fit decl actor before records.Life h = and_from _ _ (of_few before h.few) (of_rises decl actor h.writer)
fit decl actor before (records.Prepare p) h =
    let locks = all_of (is_lock_fit decl) (λ (lock : ReadLock). HasInvocation decl lock.object lock.inv)
    (of_invocation decl) p.locks h.locks in
    let owns = all_of (is_own_fit decl) (λ (own : OwnLine). HasEvent decl own.object own.event)
    (of_event decl) p.own h.owns in
    and_from _ _ (of_few before h.few) (and_from _ _ (of_site decl actor h.writer)
    (and_from _ _ (of_client decl p.tx.client h.clients.0)
    (and_from _ _ (of_plan decl p.epoch h.epochs.0)
    (and_from _ _ locks (and_from _ _ owns (of_lines decl p.lines h.lines))))))
fit decl actor before (records.Done tx clock) h =
    and_from _ _ (of_few before h.few) (and_from _ _ (of_site decl actor h.writer)
    (and_from _ _ (of_client decl tx.client h.clients.0) (of_clock clock h.clocks.0)))
fit decl actor before (records.Close epoch) h =
    and_from _ _ (of_few before h.few) (and_from _ _ (of_site decl actor h.writer) (of_plan decl epoch h.epochs.0))
fit decl actor before (records.Install start) h =
    and_from _ _ (of_few before h.few) (and_from _ _ (of_site decl actor h.writer)
    (of_start decl start.epoch start.clock start.lines h.epochs.0 h.clocks.0 h.lines))
fit decl actor before (records.Commit c) h =
    let ops = all_of (is_op_fit decl) (IsOpDeclared decl) (of_op decl) c.ops h.ops in
    and_from _ _ (of_few before h.few) (and_from _ _ (of_this_client decl actor c.tx.client h.clients.0 h.writer)
    (and_from _ _ (of_clock c.stamp.clock h.clocks.0) ops))
fit decl actor before (records.Decide start) h =
    and_from _ _ (of_few before h.few) (and_from _ _ (of_administrator decl actor h.writer)
    (of_start decl start.epoch start.clock start.lines h.epochs.0 h.clocks.0 h.lines))

pub fits_is_as_said : (decl : Declaration) (actor before : ℕ) (rec : Record)
    → (fits decl actor before rec ≡ true) ↔ IsFit decl actor before rec
fits_is_as_said decl actor before rec = (said decl actor before rec, fit decl actor before rec)
