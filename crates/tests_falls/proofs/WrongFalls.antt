-- No wrong history with falls is right.
use Rattle.std.proofs.Common.{◌≡◌, ℕ, inl, inr, refl, ap}
use Rattle.qc_decl.specs.Vocabulary.{three}
use Rattle.tests_falls.specs.Refused.{IsNoPost, IsNoRise}
use Rattle.tests_falls.specs.WrongClients as wrong_clients
use Rattle.tests_falls.specs.WrongSites as wrong_sites
use Rattle.tests_falls.proofs.Refusing.{clock_written, life_begun, life_granted, refused}

pub old_life_refused : IsNoPost three 1 wrong_sites.old_life wrong_sites.old_life_then
old_life_refused =
    refused three 1 wrong_sites.old_life wrong_sites.old_life_then refl
    (λ e. let same : ◌≡◌ {A = ℕ} 2 1 = ap life_granted e in let never : ⊥ = cc in never)
    (λ e. let never : ⊥ = cc in never) (λ e. let never : ⊥ = cc in never)

pub old_grant_refused : IsNoPost three 1 wrong_sites.old_grant wrong_sites.old_grant_then
old_grant_refused =
    refused three 1 wrong_sites.old_grant wrong_sites.old_grant_then refl (λ e. let never : ⊥ = cc in never)
    (λ e. let never : ⊥ = cc in never) (λ e. let never : ⊥ = cc in never)

pub old_grant_unwritten_refused : IsNoPost three 1 wrong_sites.old_grant_unwritten wrong_sites.old_grant_unwritten_then
old_grant_unwritten_refused =
    refused three 1 wrong_sites.old_grant_unwritten wrong_sites.old_grant_unwritten_then refl
    (λ e. let never : ⊥ = cc in never)
    (λ e. let never : ⊥ = cc in never) (λ e. let never : ⊥ = cc in never)

pub nothing_asked_refused : IsNoPost three 0 wrong_sites.nothing_asked wrong_sites.nothing_asked_then
nothing_asked_refused =
    refused three 0 wrong_sites.nothing_asked wrong_sites.nothing_asked_then refl (λ e. let never : ⊥ = cc in never)
    (λ e. let never : ⊥ = cc in never) (λ e. let never : ⊥ = cc in never)

pub no_life_refused : IsNoPost three 0 wrong_sites.no_life wrong_sites.no_life_then
no_life_refused =
    refused three 0 wrong_sites.no_life wrong_sites.no_life_then refl (λ e. let never : ⊥ = cc in never)
    (λ e. let never : ⊥ = cc in never) (λ e. let never : ⊥ = cc in never)

pub asked_unwritten_refused : IsNoPost three 0 wrong_sites.asked_unwritten wrong_sites.asked_unwritten_then
asked_unwritten_refused =
    refused three 0 wrong_sites.asked_unwritten wrong_sites.asked_unwritten_then refl (λ e. let never : ⊥ = cc in never)
    (λ e. let never : ⊥ = cc in never) (λ e. let never : ⊥ = cc in never)

pub promise_dropped_refused : IsNoPost three 0 wrong_sites.promise_dropped wrong_sites.promise_dropped_then
promise_dropped_refused =
    refused three 0 wrong_sites.promise_dropped wrong_sites.promise_dropped_then refl (λ e. let never : ⊥ = cc in never)
    (λ e. let never : ⊥ = cc in never) (λ e. let never : ⊥ = cc in never)

pub fault_alone_refused : IsNoPost three 1 wrong_sites.fault_alone wrong_sites.fault_alone_then
fault_alone_refused =
    refused three 1 wrong_sites.fault_alone wrong_sites.fault_alone_then refl (λ e. let never : ⊥ = cc in never)
    (λ e. let never : ⊥ = cc in never) (λ e. let never : ⊥ = cc in never)

pub voted_unwritten_refused : IsNoPost three 1 wrong_sites.voted_unwritten wrong_sites.voted_unwritten_then
voted_unwritten_refused =
    refused three 1 wrong_sites.voted_unwritten wrong_sites.voted_unwritten_then refl (λ e. let never : ⊥ = cc in never)
    (λ e. let never : ⊥ = cc in never) (λ e. let never : ⊥ = cc in never)

pub unknown_alone_refused : IsNoPost three 3 wrong_clients.unknown_alone wrong_clients.unknown_alone_then
unknown_alone_refused =
    refused three 3 wrong_clients.unknown_alone wrong_clients.unknown_alone_then refl (λ e. let never : ⊥ = cc in never)
    (λ e. let never : ⊥ = cc in never) (λ e. let never : ⊥ = cc in never)

pub committed_unwritten_refused : IsNoPost three 3 wrong_clients.committed_unwritten
    wrong_clients.committed_unwritten_then
committed_unwritten_refused =
    refused three 3 wrong_clients.committed_unwritten wrong_clients.committed_unwritten_then refl
    (λ e. let never : ⊥ = cc in never)
    (λ e. let never : ⊥ = cc in never) (λ e. let never : ⊥ = cc in never)

pub old_name_refused : IsNoPost three 3 wrong_clients.old_name wrong_clients.old_name_then
old_name_refused =
    refused three 3 wrong_clients.old_name wrong_clients.old_name_then refl
    (λ e. let same : ◌≡◌ {A = ℕ} 2 1 = ap life_begun e in let never : ⊥ = cc in never)
    (λ e. let never : ⊥ = cc in never) (λ e. let never : ⊥ = cc in never)

pub decided_without_record_refused : IsNoPost three 3 wrong_clients.decided_without_record
    wrong_clients.decided_without_record_then
decided_without_record_refused =
    refused three 3 wrong_clients.decided_without_record wrong_clients.decided_without_record_then refl
    (λ e. let never : ⊥ = cc in never) (λ e. let never : ⊥ = cc in never) (λ e. let never : ⊥ = cc in never)

pub late_record_refused : IsNoRise three 3 wrong_clients.late_record wrong_clients.late_record_then
late_record_refused (inl e) = let never : ⊥ = cc in never
late_record_refused (inr e) = let never : ⊥ = cc in never

pub decided_against_record_refused : IsNoPost three 3 wrong_clients.decided_against_record
    wrong_clients.decided_against_record_then
decided_against_record_refused =
    refused three 3 wrong_clients.decided_against_record wrong_clients.decided_against_record_then refl
    (λ e. let never : ⊥ = cc in never) (λ e. let never : ⊥ = cc in never) (λ e. let never : ⊥ = cc in never)

pub record_lost_refused : IsNoRise three 3 wrong_clients.record_lost wrong_clients.record_lost_then
record_lost_refused (inl e) = let never : ⊥ = cc in never
record_lost_refused (inr e) = let never : ⊥ = cc in never

pub record_more_refused : IsNoRise three 3 wrong_clients.record_more wrong_clients.record_more_then
record_more_refused (inl e) = let never : ⊥ = cc in never
record_more_refused (inr e) = let never : ⊥ = cc in never

pub begun_while_down_refused : IsNoPost three 3 wrong_clients.begun_while_down wrong_clients.begun_while_down_then
begun_while_down_refused =
    refused three 3 wrong_clients.begun_while_down wrong_clients.begun_while_down_then refl
    (λ e. let never : ⊥ = cc in never)
    (λ e. let never : ⊥ = cc in never) (λ e. let never : ⊥ = cc in never)

pub stamp_again_refused : IsNoPost three 3 wrong_clients.stamp_again wrong_clients.stamp_again_then
stamp_again_refused =
    refused three 3 wrong_clients.stamp_again wrong_clients.stamp_again_then refl
    (λ e. let same : ◌≡◌ {A = ℕ} 2 1 = ap clock_written e in let never : ⊥ = cc in never)
    (λ e. let never : ⊥ = cc in never) (λ e. let never : ⊥ = cc in never)
