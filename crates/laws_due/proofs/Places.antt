-- The numbers of actors, and the deeds of an actor that rises.
use Rattle.std.proofs.Common.{◌≡◌, ℕ, ◌+◌, ◌<◌, ◌==◌, true, false, List, [], ◌∷◌, ◌++◌, sym, ap, ◌∙◌, arith}
use Rattle.std.proofs.Common.{append_assoc}
pub use Rattle.qc_decl.proofs.Clients.{client_below, client_past, client_within}
use Rattle.qc_decl.specs.declared.declaration.Declaration.{Declaration}
use Rattle.qc_decl.specs.Vocabulary.{controller, is_client}
use Rattle.qc_msg.specs.declared.record.Record.{Record}
use Rattle.qc_msg.specs.declared.step.Step.TheVariants as steps
use Rattle.qc_msg.specs.declared.turn.Appended.{Appended}
use Rattle.qc_msg.specs.declared.turn.Turn.{Turn}
use Rattle.qc_msg.specs.Vocabulary.{Deed, Entry, Rises, by, deeds, deeds_as, marked, posted_as}
use Rattle.qc_msg.proofs.Growth.{deeds-posted_as}
use Rattle.qc_list.proofs.Numbers.{numbers_apart}
use Rattle.qc_msg.proofs.DeedsGrow.{deeds-rise}

pub apart_from_controller : (decl : Declaration) (a : ℕ) → is_client decl a ≡ true → (controller decl == a) ≡ false
apart_from_controller decl a client = numbers_apart (controller decl) a
    (λ same. (let within : a < decl.sites + decl.clients = client_below decl a client in
    let is : decl.sites + decl.clients + 1 ≡ a = same in omega arith))

pub rose_split : (a : ℕ) (h : List Entry) (kept : List Record) (end : Appended) (n : ℕ) (turn : Turn)
    → deeds a [] (h ++ by a (steps.Rose kept ∷ posted_as end n turn)) ≡ (deeds a [] h ++ Rises kept ∷ [])
    ++ deeds_as end n turn
rose_split a h kept end n turn =
    ap (deeds a []) (sym (append_assoc h (marked a (steps.Rose kept) ∷ []) (by a (posted_as end n turn))))
    ∙ deeds-posted_as end a n (h ++ marked a (steps.Rose kept) ∷ []) turn
    ∙ ap (λ (ds : List Deed). ds ++ deeds_as end n turn) (deeds-rise a h kept)
