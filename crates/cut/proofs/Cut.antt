-- Where the screen's left edge is has no part in what is read. Cut a record anywhere: from the first Start that the reader
-- of the later part hears, its state is that of the reader of the whole record, at every item after it.
use Rattle.cut.specs.Cut.{OwedAlike}
use Rattle.std.specs.Prelude.{◌≡◌, refl, Bool, true, false, List, [], ◌∷◌, ◌++◌, Option, Some, None}
use Rattle.std.proofs.Common.{sym, ap, ◌∙◌}
use Rattle.wire.specs.declared.Level.{Level as WireLevel}
use Rattle.wire.specs.Wire.{wire}
use Rattle.reader.specs.declared.Place.{Place}
use Rattle.reader.specs.declared.Place.TheVariants.{Idle}
use Rattle.reader.specs.declared.Reader.{Reader}
use Rattle.reader.specs.Reader.{line, reader_of, reader_after, reader_afresh}
use Rattle.reader.specs.Record.{Level, level, read_one, heard_one, read_all}
use Rattle.reader.specs.Laws.{read_joined, Marks, no_mark, new_mark, marks_kept}
use Rattle.cut.specs.Heard.{StartAt, Unheard}

-- The reader of the later part has heard no Start yet, and remembers the wire as the other does, or nothing.
data Behind : Reader → Reader → Type 0 where
  new : {r : Reader} → Marks r → Behind (reader_of (line None false) Idle) r
  idle : {z : Option WireLevel} {k : Bool} {p : Place} → Marks (reader_of (line z k) p) → Behind (reader_of (line z false) Idle) (reader_of (line z k) p)

marks_all : (ws : List Level) {r : Reader} → Marks r → Marks (read_all r ws)
marks_all [] s = s
marks_all (level scl sda ∷ ws) s = marks_all ws (marks_kept scl sda s)

-- ---- a level that is no Start to the later reader keeps it behind
idle_kept :
    (scl_before before scl sda : Bool) {k : Bool} {p : Place} → Marks (reader_of (line (Some (wire scl_before before)) k) p)
    → (StartAt (reader_of (line (Some (wire scl_before before)) false) Idle) (level scl sda) → ⊥)
    → Behind (reader_after (reader_of (line (Some (wire scl_before before)) false) Idle) scl sda)
    (reader_after (reader_of (line (Some (wire scl_before before)) k) p) scl sda)
idle_kept false before false sda s h = idle (marks_kept false sda s)
idle_kept false before true sda s h = idle (marks_kept true sda s)
idle_kept true before false sda s h = idle (marks_kept false sda s)
idle_kept true true true true s h = idle (marks_kept true true s)
idle_kept true true true false s h = absurd (h refl)
idle_kept true false true true s h = idle (marks_kept true true s)
idle_kept true false true false s h = idle (marks_kept true false s)

behind_kept :
    {q r : Reader} (scl sda : Bool) → Behind q r → (StartAt q (level scl sda) → ⊥)
    → Behind (reader_after q scl sda) (reader_after r scl sda)
behind_kept false sda (new s) h = idle (marks_kept false sda s)
behind_kept true sda (new s) h = idle (marks_kept true sda s)
behind_kept false sda (idle {z = None} s) h = idle (marks_kept false sda s)
behind_kept true sda (idle {z = None} s) h = idle (marks_kept true sda s)
behind_kept scl sda (idle {z = Some before} s) h = idle_kept before.scl before.sda scl sda s h

-- ---- at the first Start that the later reader hears the two meet
idle_meets :
    (scl_before before scl sda : Bool) {k : Bool} {p : Place} → Marks (reader_of (line (Some (wire scl_before before)) k) p)
    → StartAt (reader_of (line (Some (wire scl_before before)) false) Idle) (level scl sda)
    → reader_after (reader_of (line (Some (wire scl_before before)) false) Idle) scl sda
    ≡ reader_after (reader_of (line (Some (wire scl_before before)) k) p) scl sda
idle_meets false before false sda s h = cc
idle_meets false before true sda s h = cc
idle_meets true before false sda s h = cc
idle_meets true true true true s h = cc
idle_meets true true true false no_mark h = refl
idle_meets true true true false new_mark h = refl
idle_meets true false true true s h = cc
idle_meets true false true false s h = cc

behind_meets :
    {q r : Reader} (scl sda : Bool) → Behind q r → StartAt q (level scl sda)
    → reader_after q scl sda ≡ reader_after r scl sda
behind_meets scl sda (new s) h = cc
behind_meets scl sda (idle {z = None} s) h = cc
behind_meets scl sda (idle {z = Some before} s) h = idle_meets before.scl before.sda scl sda s h

meets :
    (xs : List Level) (w : Level) {q r : Reader} → Behind q r → Unheard q xs → StartAt (read_all q xs) w
    → read_one (read_all q xs) w ≡ read_one (read_all r xs) w
meets [] (level scl sda) b u h = behind_meets scl sda b h
meets (level scl sda ∷ xs) w b u h = meets xs w (behind_kept scl sda b u.0) u.1 h

-- THE ANSWER: earlier is what the cut takes away; xs and w, up to the first Start heard in what is left; ys, all that follows.
pub cut_anywhere :
    (earlier xs : List Level) (w : Level) (ys : List Level) → Unheard reader_afresh xs
    → StartAt (read_all reader_afresh xs) w
    → read_all reader_afresh (xs ++ (w ∷ ys)) ≡ read_all reader_afresh (earlier ++ (xs ++ (w ∷ ys)))
cut_anywhere earlier xs w ys u h =
    let whole : Reader = read_all reader_afresh earlier in
    let m : read_one (read_all reader_afresh xs) w ≡ read_one (read_all whole xs) w =
    meets xs w (new (marks_all earlier no_mark)) u h in
    read_joined reader_afresh xs (w ∷ ys) ∙ ap (λ (r : Reader). read_all r ys) m ∙ sym (read_joined whole xs (w ∷ ys))
    ∙ sym (read_joined reader_afresh earlier (xs ++ (w ∷ ys)))

-- So whatever comes next is heard alike from both left edges, an address among it ..
pub heard_alike :
    (earlier xs : List Level) (w : Level) (ys : List Level) (next : Level) → Unheard reader_afresh xs
    → StartAt (read_all reader_afresh xs) w
    → heard_one (read_all reader_afresh (xs ++ (w ∷ ys))) next ≡ heard_one (read_all reader_afresh (earlier ++ (xs ++ (w ∷ ys)))) next
heard_alike earlier xs w ys next u h = ap (λ (r : Reader). heard_one r next) (cut_anywhere earlier xs w ys u h)

-- .. and its acknowledge is owed alike, whatever the device was in the middle of.
pub owed_alike : OwedAlike
owed_alike add held scl turn other byte ninth = refl
