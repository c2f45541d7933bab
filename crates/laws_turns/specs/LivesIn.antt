-- What an actor has done in a history with falls: it takes inputs and posts turns, falls and rises.
use Rattle.std.specs.Prelude.{ℕ, ◌≤◌, Bool, List, [], length}
use Rattle.qc_core.specs.Vocabulary.{Lives}
use Rattle.qc_decl.specs.declared.declaration.Declaration.{Declaration}
use Rattle.qc_msg.specs.Vocabulary.{Entry, deeds, mail}

-- the actor's deeds are a life, with an open input after them or none; the numbers of its messages are below one that
-- is at most the number of all messages
pub record LivesIn (decl : Declaration) (a : ℕ) (h : List Entry) (is_open : Bool) : Type 0 where
  pub above : ℕ
  pub lives : Lives decl a (deeds a [] h) is_open above
  pub within : above ≤ length (mail h)
