-- A turn of the administrator: all in it is due, and the tie holds after it. The simple ones: he does nothing, he tells
-- a reply, he sends.
use Rattle.std.proofs.Common.{◌≡◌, ◌≤◌, ℕ, ◌+◌, true, false, List, [], ◌++◌, length, fold, Option, Some, None}
use Rattle.std.proofs.Common.{option_map, refl, sym, ap, ◌∙◌, subst, arith}
use Rattle.std.specs.Prelude.{is_some}
use Rattle.std.proofs.lemmas.List.{append-nil}
use Rattle.qc_decl.specs.declared.declaration.Declaration.{Declaration}
use Rattle.qc_msg.specs.declared.call.Call.{Call}
use Rattle.qc_msg.specs.declared.record.Record.{Record}
use Rattle.qc_msg.specs.declared.reply.Reply.{Reply}
use Rattle.qc_msg.specs.declared.reply.Reply.TheVariants as replies
use Rattle.qc_msg.specs.declared.turn.Posting.{Posting}
use Rattle.qc_msg.specs.declared.turn.Turn.{Turn}
use Rattle.qc_msg.specs.Vocabulary.{Deed, quiet, sending, sends_of, turn_deeds}
use Rattle.qc_promise.specs.Vocabulary.{AdminAccount, AdminRequest, AreAdminDeedsDue, IsDecisionMet, admin_account_at}
use Rattle.qc_promise.specs.Vocabulary.{admin_due, admin_ended, closes, decide_due, decide_record, decided_epoch}
use Rattle.qc_promise.specs.Vocabulary.{decided_now, installs, pending_next}
use Rattle.qc_epoch.specs.Vocabulary.{Admin, AdminMove, Asking, Closing, Doing, Installing, Resting, ShutSite, moved}
use Rattle.qc_epoch.specs.Vocabulary.{replies_with}
use Rattle.qc_admin.specs.Vocabulary.{sent_each}
use Rattle.laws_due.proofs.AdminStages.{Base, HasClosed, Stage, Ties, epoch_of}
use Rattle.std.specs.Option.{option_or}
use Rattle.laws_due.proofs.AdminFrames.{Frame, later}

-- where a turn's record isn't written, Fault is told, and that is due
pub record Fails (decl : Declaration) (d : AdminAccount) (turn : Turn) (r : Record) : Type 0 where
  pub sends_none : turn.failed_sends ≡ []
  pub told : turn.failed_told ≡ Some replies.Fault
  pub due : admin_due decl d true ≡ Some replies.Fault
  pub unwritten : d.written ≡ None
  pub record_is : option_map decide_record (decide_due decl d) ≡ Some r

-- the account after the input being d, and the messages of the turn numbered from this number on
pub record Goes (decl : Declaration) (first : ℕ) (d : AdminAccount) (move : AdminMove) : Type 0 where
  pub end : AdminAccount
  pub is : fold (admin_account_at decl) d (turn_deeds first move.turn) ≡ end
  pub due : (ys : List Deed) → pending_next ys ≡ None → AreAdminDeedsDue decl end ys
      → AreAdminDeedsDue decl d (turn_deeds first move.turn ++ ys)
  pub ties : Ties decl (first + length move.turn.sends) end (sent_each move.admin first move.turn.sends)
  pub fails : (r : Record) → move.turn.write ≡ Some r → Fails decl d move.turn r

-- a tie stays with later numbers

closed_later : (decl : Declaration) (n k e : ℕ) (cs : List AdminRequest) (calls : List Call) (shuts : List ShutSite)
    → n ≤ k → HasClosed decl n e cs calls shuts → HasClosed decl k e cs calls shuts
closed_later decl n k e cs calls shuts low has =
    record {
      calls_are = has.calls_are;
      shuts_are = has.shuts_are;
      sites = has.sites;
      numbers = later n k cs low has.numbers;
    }

pub stage_later : (decl : Declaration) (n k : ℕ) (d : AdminAccount) (x : Doing) → n ≤ k → Stage decl n d x
    → Stage decl k d x
stage_later decl n k d Resting low s = s
stage_later decl n k d (Closing epoch calls round shuts) low s = (
  record {
    moves = (s.0).moves;
    asks_none = (s.0).asks_none;
    has = closed_later decl n k (decided_epoch d) (closes d) calls shuts low (s.0).has;
    waits = (s.0).waits;
    wants_none = (s.0).wants_none;
  },
  s.1,
)
stage_later decl n k d (Asking epoch shuts questions) low s = s
stage_later decl n k d (Installing closed awaited calls installed) low s = record {
  why = s.why;
  calls_are = s.calls_are;
  all = s.all;
  installed_are = s.installed_are;
  numbers = later n k (installs d) low s.numbers;
  open_still = s.open_still;
}

pub ties_later : (decl : Declaration) (n k : ℕ) (d : AdminAccount) (m : Admin) → n ≤ k → Ties decl n d m
    → Ties decl k d m
ties_later decl n k d m low ties = record { base = ties.base; stage = stage_later decl n k d m.doing low ties.stage }

plus_none : (n : ℕ) → n ≤ n + 0
plus_none n = omega arith

-- what stays of an account but for its requests

pub base_frame : (d e : AdminAccount) (m : Admin) → Frame d e → Base d m → Base e m
base_frame d e m frame base = record {
  up = frame.up ∙ base.up;
  decided = now ∙ base.decided;
  epoch = base.epoch ∙ ap epoch_of (sym now);
}
  where
    now : decided_now e ≡ decided_now d
    now = λ i. option_or (frame.written i) (frame.decided i)

module _ (decl : Declaration) (first : ℕ) (d : AdminAccount) (m : Admin) where
  pub quiet_goes : Ties decl first d m → Goes decl first d (moved m quiet)
  quiet_goes ties = record {
    end = d;
    is = refl;
    due = λ ys none dues. dues;
    ties = ties_later decl first (first + 0) d m (plus_none first) ties;
    fails = λ r is. absurd (let never : ⊥ = cc in never);
  }

  pub tells_goes : (reply : Reply) → Base d m → admin_due decl d false ≡ Some reply → d.written ≡ decide_due decl d
      → Goes decl first d (replies_with m reply)
  tells_goes reply base due written = record {
    end = admin_ended d;
    is = refl;
    due = λ ys none dues. (
      (
        ap (λ (o : Option Record). admin_due decl d (is_some o)) none
            ∙ due,
        subst (IsDecisionMet decl d) (sym none) written,
      ),
      dues,
    );
    ties = record {
      base = record { up = base.up; decided = base.decided; epoch = base.epoch };
      stage = record { commanded_none = refl; unwritten = refl };
    };
    fails = λ r is. absurd (let never : ⊥ = cc in never);
  }

  pub sends_goes : (ps : List Posting) (e : AdminAccount) → fold (admin_account_at decl) d (sends_of first ps) ≡ e
      → ((ys : List Deed) → AreAdminDeedsDue decl e ys → AreAdminDeedsDue decl d (sends_of first ps ++ ys))
      → Ties decl (first + length ps) e (sent_each m first ps) → Goes decl first d (moved m (sending ps))
  sends_goes ps e is due ties = record {
    end = e;
    is = ap (fold (admin_account_at decl) d) (append-nil (sends_of first ps)) ∙ is;
    due = λ ys none dues. subst (λ (v : List Deed). AreAdminDeedsDue decl d (v ++ ys))
        (sym (append-nil (sends_of first ps))) (due ys dues);
    ties = ties;
    fails = λ r no. absurd (let never : ⊥ = cc in never);
  }
