-- Deeds of an actor that neither falls nor rises.
use Rattle.std.proofs.Common.{ℕ, ◌+◌, Bool, List, [], ◌∷◌, ◌++◌, Option, Some, None}
use Rattle.qc_decl.specs.declared.declaration.Declaration.{Declaration}
use Rattle.qc_msg.specs.declared.record.Record.{Record}
use Rattle.qc_msg.specs.declared.reply.Reply.{Reply}
use Rattle.qc_msg.specs.declared.step.Input.{Input}
use Rattle.qc_msg.specs.declared.turn.Posting.{Posting}
use Rattle.qc_msg.specs.declared.turn.Turn.{Turn}
use Rattle.qc_msg.specs.Vocabulary.{Deed, Takes, sends_of, tells_of, turn_deeds, writes_of}
use Rattle.qc_core.specs.Vocabulary.{Acts, AreSteady, posts, starts, takes}

pub both_steady : (xs ys : List Deed) → AreSteady xs → AreSteady ys → AreSteady (xs ++ ys)
both_steady [] ys first second = second
both_steady (x ∷ xs) ys first second = (first.0, both_steady xs ys first.1 second)

pub sends_steady : (n : ℕ) (ps : List Posting) (told : Option Reply) → AreSteady (sends_of n ps ++ tells_of told)
sends_steady n [] None = tt
sends_steady n [] (Some reply) = (tt, tt)
sends_steady n (p ∷ ps) told = (tt, sends_steady (n + 1) ps told)

pub turn_steady : (n : ℕ) (turn : Turn) → AreSteady (turn_deeds n turn)
turn_steady n turn = by turn.write
  where
    by : (w : Option Record) → AreSteady (writes_of w ++ (sends_of n turn.sends ++ tells_of turn.told))
    by None = sends_steady n turn.sends turn.told
    by (Some written) = (tt, sends_steady n turn.sends turn.told)

-- one input more, with its turn
pub event_steady : (ds : List Deed) (given : Input) (n : ℕ) (turn : Turn) → AreSteady ds
    → AreSteady ((ds ++ Takes given ∷ []) ++ turn_deeds n turn)
event_steady ds given n turn steady = both_steady (ds ++ Takes given ∷ []) (turn_deeds n turn)
    (both_steady ds (Takes given ∷ []) steady (tt, tt)) (turn_steady n turn)

-- who only takes inputs and posts turns neither falls nor rises
pub acts_steady : (decl : Declaration) (a : ℕ) (ds : List Deed) (b : Bool) (n : ℕ) → Acts decl a ds b n → AreSteady ds
acts_steady decl a ds b n starts = tt
acts_steady decl a ds b n (takes before given m acts may) =
    both_steady before (Takes given ∷ []) (acts_steady decl a before _ m acts) (tt, tt)
acts_steady decl a ds b n (posts before turn m first acts above lawful) =
    both_steady before (turn_deeds first turn) (acts_steady decl a before _ m acts) (turn_steady first turn)
