-- What holds of a dialogue whatever the host replies: one dialogue after another, and the seven steps. Assumes nothing.
use Rattle.std.specs.Prelude.{Float, Option}
use Prim.Native.Nat.{ℕ}
use Rattle.geometry.specs.declared.Size.{Size}
use Rattle.style.specs.declared.Style.{Style}
use Rattle.tree.specs.declared.layout.OofCandidate.{OofCandidate}
use Rattle.oof_resolve.specs.Resolved.{resolved_box}
use Rattle.oof_resolve.specs.declared.ContainingBlock.{ContainingBlock}
use Rattle.oof_resolve.specs.declared.ResolvedBox.{ResolvedBox}
use Rattle.oof_place.specs.Placing.{layout_of, box_layout}
use Rattle.oof_box.specs.Talk.{Talk, done, ask, Laid, ◌>>=◌}
use Rattle.oof_box.specs.Box.{Placed, placed, stretched, final_size, measured, keyword_sizes, size_keywords}
use Rattle.oof_box.specs.declared.sizing.Stretched.{Stretched}
use Rattle.oof_box_laws.specs.Laws.{Always, now, later, SizeAlways, Alike, asking}

pub always_bind : {A B : Type 0} (P : A → Type 0) (Q : B → Type 0) (m : Talk A) (next : A → Talk B) → Always P m → ((a : A) → P a → Always Q (next a)) → Always Q (m >>= next)
unfolding ◌>>=◌
always_bind P Q _ next (now {a = a} p) f = f a p
always_bind P Q _ next (later {q = q} {next = reply} h) f = later (λ r. always_bind P Q (reply r) next (h r) f)

pub always_map : {A : Type 0} (P Q : A → Type 0) (m : Talk A) → ((a : A) → P a → Q a) → Always P m → Always Q m
always_map P Q _ f (now {a = a} p) = now (f a p)
always_map P Q _ f (later {q = q} {next = next} h) = later (λ r. always_map P Q (next r) f (h r))

pub always_any : {A : Type 0} (m : Talk A) → Always (λ (a : A). Unit {0}) m
always_any (done a) = now tt
always_any (ask q next) = later (λ r. always_any (next r))

pub always_both : {A : Type 0} (P Q : A → Type 0) (m : Talk A) → Always P m → Always Q m → Always (λ (a : A). P a × Q a) m
always_both P Q (done a) (now p) (now q) = now (p, q)
always_both P Q (ask q next) (later f) (later g) = later (λ r. always_both P Q (next r) (f r) (g r))

-- the same questions first
pub alike_bind : {A : Type 0} (R : Placed → Placed → Type 0) (m : Talk A) (next next' : A → Talk Placed) → ((a : A) → Alike R (next a) (next' a)) → Alike R (m >>= next) (m >>= next')
unfolding ◌>>=◌
alike_bind R (done a) next next' f = f a
alike_bind R (ask q reply) next next' f = asking (λ r. alike_bind R (reply r) next next' f)

pub measured_always : (P : Size Float → Type 0) (node : ℕ) (box : ResolvedBox) (at : Stretched) → ((s : Size Float) → P (final_size box at s)) → Always P (measured node box at)
unfolding measured
measured_always P node box at f = always_bind (λ (s : Size Float). Unit {0}) P _ _ (always_any _) (λ s u. now (f s))

-- what holds of the final size for any reply, where K holds of the size known after step 4, holds of the layout's size
pub size_from : (K : Size (Option Float) → Type 0) (P : Size Float → Type 0) (container : ContainingBlock) (style : Style) (candidate : OofCandidate)
    → Always K (keyword_sizes candidate.node style (resolved_box container style candidate) (size_keywords style (resolved_box container style candidate)))
    → ((known : Size (Option Float)) → K known → (s : Size Float) → P (final_size (resolved_box container style candidate) (stretched style (resolved_box container style candidate) known) s))
    → SizeAlways P container style candidate
unfolding placed box_layout layout_of ◌>>=◌
size_from K P container style candidate a f =
    let box = resolved_box container style candidate in
    always_bind K (λ (p : Placed). P p.outcome.layout.size) (keyword_sizes candidate.node style box (size_keywords style box)) _ a
    (λ known k. always_bind P (λ (p : Placed). P p.outcome.layout.size) (measured candidate.node box (stretched style box known)) _ (measured_always P candidate.node box (stretched style box known) (f known k)) (λ size h. later (λ laid. now h)))

-- the same where nothing need be known
pub size_always : (P : Size Float → Type 0) (container : ContainingBlock) (style : Style) (candidate : OofCandidate)
    → ((known : Size (Option Float)) (s : Size Float) → P (final_size (resolved_box container style candidate) (stretched style (resolved_box container style candidate) known) s))
    → SizeAlways P container style candidate
size_always P container style candidate f = size_from (λ (k : Size (Option Float)). Unit {0}) P container style candidate (always_any _) (λ known u s. f known s)

-- what holds of the outcome by any final size and any reply to lay out
pub placed_always : (P : Placed → Type 0) (container : ContainingBlock) (style : Style) (candidate : OofCandidate)
    → ((size : Size Float) (laid : Laid) → P (record { outcome = box_layout container style candidate (resolved_box container style candidate) size laid.overflow; surfaced = laid.surfaced }))
    → Always P (placed container style candidate)
unfolding placed ◌>>=◌
placed_always P container style candidate f =
    let box = resolved_box container style candidate in
    always_bind (λ (k : Size (Option Float)). Unit {0}) P (keyword_sizes candidate.node style box (size_keywords style box)) _ (always_any _)
    (λ known u. always_bind (λ (s : Size Float). Unit {0}) P (measured candidate.node box (stretched style box known)) _ (always_any _) (λ size h. later (λ laid. now (f size laid))))
