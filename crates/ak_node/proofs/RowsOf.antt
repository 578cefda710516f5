-- The rows of leaves and of series.
use Rattle.std.proofs.Common.{Bool, ◌≡◌, ◌∙◌, ℕ, zero, suc, ◌+◌, ◌≤◌, List, [], ◌∷◌, ◌++◌, length, take, true, false, sym, ap, ap₂, subst, append_assoc, append-nil, add-one, length-append, arith}
use Rattle.std.specs.List.{flat_map}
use Rattle.std.proofs.lemmas.Grind.{flat_map-append}
use Rattle.std.proofs.lemmas.List.{flat_map_more}
use Rattle.std.specs.Str.{bytes_eq}
use Rattle.ak_base.specs.declared.point.Point.{Point}
use Rattle.ak_host.specs.Moments.{HostState}
use Rattle.ak_meta.specs.Contents.{Content}
use Rattle.ak_node.proofs.Chained.{kept_at}
use Rattle.ak_repair.proofs.Chained.{whole_alive}
use Rattle.ak_repair.specs.Walks.{IsAt, IsWholeIn}
use Rattle.ak_run.specs.Replies.{metric_of, row_text, series_rows}
use Rattle.ak_tree.specs.Standing.{Trees, Holds}
use Rattle.ak_world.specs.Leaves.{Leaf, Series, points_of, leaves_from, kept_points}
use Rattle.ak_world.specs.Steps.{written_in}
use Rattle.ak_world.specs.Worlds.{World, limits_of}

-- a text that more was appended to is no shorter
pub no_shorter : (a b more text : List ℕ) → text ≡ b ++ more → length a ≤ length b → length a ≤ length text
no_shorter a b more text is before = omega (arith, ap length is ∙ length-append b more, before)

-- the rows of one leaf more
pub rows_more : (f : Point → List ℕ) (leaves : List Leaf) (leaf : Leaf) (i : ℕ) (text old : List ℕ) → take (i + 1) leaves ≡ take i leaves ++ leaf ∷ []
    → text ≡ old ++ flat_map f (points_of (take i leaves)) → text ++ flat_map f leaf.points ≡ old ++ flat_map f (points_of (take (i + 1) leaves))
rows_more f leaves leaf i text old more so_far =
    let points : points_of (take (i + 1) leaves) ≡ points_of (take i leaves) ++ leaf.points =
    ap points_of more ∙ flat_map-append (λ (l : Leaf). l.points) (take i leaves) (leaf ∷ []) ∙ ap (λ (ps : List Point). points_of (take i leaves) ++ ps) (append-nil leaf.points) in
    ap (λ (t : List ℕ). t ++ flat_map f leaf.points) so_far
    ∙ append_assoc old (flat_map f (points_of (take i leaves))) (flat_map f leaf.points)
    ∙ ap (λ (t : List ℕ). old ++ t) (sym (flat_map-append f (points_of (take i leaves)) leaf.points) ∙ ap (flat_map f) (sym points))

-- the points of the open leaf of a series
written_at : (ss : List Series) (n : ℕ) (s : Series) → IsAt ss n s → written_in ss n ≡ s.written
written_at [] n s is = absurd is
written_at (t ∷ ss) zero s is = ap (λ (r : Series). r.written) is
written_at (t ∷ ss) (suc n) s is = written_at ss n s is

-- the rows of the closed leaves of a series, and of its open one
pub series_written : (w : World) (f : Trees) (host : HostState) (n : ℕ) (s : Series) (leaves : List Leaf) (start mid end : List ℕ) (holds : Holds w f host) (is : IsAt w.series n s)
    → IsWholeIn f.meta host.files n leaves
    → mid ≡ start ++ flat_map (row_text f.meta.limits.scale (kept_at w f host n s holds is).known.name) (points_of leaves)
    → end ≡ mid ++ flat_map (row_text f.meta.limits.scale (kept_at w f host n s holds is).known.name) (written_in w.series n)
    → end ≡ start ++ flat_map (row_text (limits_of w).scale s.name) (kept_points w.ordinals.lo s)
series_written w f host n s leaves start mid end holds is whole closed open_leaf =
    let kept = kept_at w f host n s holds is in
    let row : Point → List ℕ = row_text f.meta.limits.scale kept.known.name in
    let live : leaves ≡ leaves_from w.ordinals.lo s.closed = whole_alive kept.alive whole in
    let points : points_of leaves ++ written_in w.series n ≡ kept_points w.ordinals.lo s =
    ap₂ (λ (ls : List Leaf) (ps : List Point). points_of ls ++ ps) live (written_at w.series n s is) in
    let scale : f.meta.limits.scale ≡ (limits_of w).scale = ap (λ (c : Content). c.limits.scale) holds.keeps.content_is in
    open_leaf
    ∙ ap (λ (t : List ℕ). t ++ flat_map row (written_in w.series n)) closed
    ∙ append_assoc start (flat_map row (points_of leaves)) (flat_map row (written_in w.series n))
    ∙ ap (λ (t : List ℕ). start ++ t) (sym (flat_map-append row (points_of leaves) (written_in w.series n)) ∙ ap (flat_map row) points)
    ∙ ap₂ (λ (k : ℕ) (name : List ℕ). start ++ flat_map (row_text k name) (kept_points w.ordinals.lo s)) scale kept.name_is

-- ---- The series of a metric

-- the rows of a series that is of it
pub rows_chosen : (scale lo : ℕ) (metric name : List ℕ) (s : Series) (old new : List ℕ) (is_of : Bool) → name ≡ s.name → is_of ≡ bytes_eq (metric_of name) metric → is_of ≡ true → new ≡ old ++ flat_map (row_text scale s.name) (kept_points lo s)
    → new ≡ old ++ series_rows scale lo metric s
rows_chosen scale lo metric name s old new is_of same is met wrote =
    let chosen : bytes_eq (metric_of s.name) metric ≡ true = subst (λ (n : List ℕ). bytes_eq (metric_of n) metric ≡ true) same (sym is ∙ met) in
    rw chosen wrote

-- and none of another
pub rows_passed : (scale lo : ℕ) (metric name : List ℕ) (s : Series) (text : List ℕ) (is_of : Bool) → name ≡ s.name → is_of ≡ bytes_eq (metric_of name) metric → is_of ≡ false → text ≡ text ++ series_rows scale lo metric s
rows_passed scale lo metric name s text is_of same is unmet =
    let passed : bytes_eq (metric_of s.name) metric ≡ false = subst (λ (n : List ℕ). bytes_eq (metric_of n) metric ≡ false) same (sym is ∙ unmet) in
    rw passed (sym (append-nil text))

take_next : (ss : List Series) (i : ℕ) (s : Series) → IsAt ss i s → take (suc i) ss ≡ take i ss ++ s ∷ []
take_next [] i s is = absurd is
take_next (t ∷ ss) zero s is = ap (λ (r : Series). r ∷ []) is
take_next (t ∷ ss) (suc i) s is = ap (λ (rs : List Series). t ∷ rs) (take_next ss i s is)

-- the rows of one series more
pub series_more : (f : Series → List ℕ) (ss : List Series) (i : ℕ) (s : Series) (old mid new : List ℕ) → IsAt ss i s → mid ≡ old ++ flat_map f (take i ss) → new ≡ mid ++ f s → new ≡ old ++ flat_map f (take (i + 1) ss)
series_more f ss i s old mid new is so_far more =
    let next : take (i + 1) ss ≡ take i ss ++ s ∷ [] = rw add-one (take_next ss i s is) in
    more ∙ ap (λ (t : List ℕ). t ++ f s) so_far ∙ flat_map_more f old (take i ss) s ∙ ap (λ (rs : List Series). old ++ flat_map f rs) (sym next)
