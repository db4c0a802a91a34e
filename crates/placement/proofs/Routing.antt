-- The steps of a line make its route, and what a face answers stays within the bounds of a line.
use Rattle.std.proofs.Common.{◌≡◌, ℕ, zero, suc, ◌+◌, ◌*◌, ◌/◌, ◌≤◌, Bool, true, false, not, ◌&&◌, eqb, leb, List, [], ◌∷◌, map, ℤ, pos, Some, None, Option, unwrap_or, sym, refl, ap, ◌∙◌, ⊎_elim, div-le_self, arith}
use Rattle.std.proofs.lemmas.Int.{ints}
use Rattle.std.proofs.lemmas.Bool.{cases_Bool, cond_both, cond-true, cond-false, and_parts, or_cases, leb-true, eqb-true}
use Rattle.signs.specs.declared.SignRow.{SignRow}
use Rattle.signs.specs.Props.{is_allowed, read_props}
use Rattle.signs.specs.Rows.{read_row, is_space, is_ligated, space_type}
use Rattle.signs.specs.Reclassing.{reclassed}
use Rattle.faces.specs.Meaning.{FaceMeaning, Keeps}
use Rattle.placement.specs.declared.position.Position.{Position}
use Rattle.placement.specs.declared.settings.Settings.{Settings}
use Rattle.placement.specs.Directions.{is_horizontal}
use Rattle.placement.specs.Lines.{cell, cells, positions_of}
use Rattle.placement.specs.Mapped.{glyph_for, with_code, map_row, along, map_position}
use Rattle.placement.specs.Spaces.{size, or_next, first_advance, or_else, is_fraction, own_advance, with_advance, halved_along, with_own, space_position, spaced_along}
use Rattle.placement.specs.Route.{cell_of}
use Rattle.placement.specs.Room.{Within, Light, AllLight, AllGlyphs}

-- a position before placing: an advance along the line, and nothing moved yet
pub record Unmoved (p : Position) : Type 0 where
  pub x_advance : Within 65535 p.x_advance
  pub y_advance : Within 65535 p.y_advance
  pub x_offset : p.x_offset ≡ pos 0
  pub y_offset : p.y_offset ≡ pos 0

pub unmoved_light : (p : Position) → Unmoved p → Light p
unmoved_light p u =
    let x = u.x_offset in
    let y = u.y_offset in
    record { x_advance = u.x_advance; y_advance = u.y_advance; x_offset = (omega (arith, ints), omega (arith, ints)); y_offset = (omega (arith, ints), omega (arith, ints)) }

-- a row that is read is read as itself
read_again : (r : SignRow) → read_row (read_row r) ≡ read_row r
read_again r =
    let p = r.unicode_props in
    let e : read_props (read_props p) ≡ read_props p = ⊎_elim (λ h. ap read_props (cond-true _ p 4637 h)) (λ h. ap read_props (cond-false _ p 4637 h) ∙ sym (cond-false _ p 4637 h)) (cases_Bool (is_allowed p)) in
    ap (λ (n : ℕ). record { code = r.code; unicode_props = n; glyph_props = r.glyph_props; lig_props = r.lig_props }) e

map_read : (f : FaceMeaning) (r : SignRow) → read_row (map_row f r) ≡ map_row f r
map_read f r = ap (with_code (glyph_for f r.code)) (read_again r)

module _ (f : FaceMeaning) (s : Settings) where
  abbrev h : Bool
  h = is_horizontal s.direction

  -- the rows and the positions of classed signs, mapped, then spaced
  abbrev pub mapped_rows : List SignRow → List SignRow
  mapped_rows rs = map (map_row f) (map reclassed rs)

  abbrev pub mapped_positions : List SignRow → List Position
  mapped_positions rs = map (map_position f h) (map reclassed rs)

  abbrev pub spaced_positions : List SignRow → List Position
  spaced_positions rs = positions_of (map (spaced_along f h) (cells (mapped_rows rs) (mapped_positions rs)))

  one_cell : (r : SignRow) → cell (read_row (map_row f (reclassed r))) (spaced_along f h (cell (read_row (map_row f (reclassed r))) (map_position f h (reclassed r)))).position ≡ cell_of f s r
  one_cell r = ap (λ (x : SignRow). cell x (space_position f h x (map_position f h (reclassed r)))) (map_read f (reclassed r))

  pub cells_routed : (rs : List SignRow) → cells (mapped_rows rs) (spaced_positions rs) ≡ map (cell_of f s) rs
  cells_routed [] = refl
  cells_routed (r ∷ rs) =
      let a = one_cell r in
      let b = cells_routed rs in
      cc

  -- what each step leaves, as the code comes to it
  pub rows_are : (rs : List SignRow) {classes rows : List SignRow} → classes ≡ map reclassed rs → rows ≡ map (map_row f) classes → rows ≡ mapped_rows rs
  rows_are rs ec er = er ∙ ap (map (map_row f)) ec

  positions_are : (rs : List SignRow) {classes : List SignRow} {ps : List Position} → classes ≡ map reclassed rs → ps ≡ map (map_position f h) classes → ps ≡ mapped_positions rs
  positions_are rs ec ep = ep ∙ ap (map (map_position f h)) ec

  pub spaces_are : (rs : List SignRow) {classes rows : List SignRow} {ps qs : List Position} → classes ≡ map reclassed rs → rows ≡ map (map_row f) classes → ps ≡ map (map_position f h) classes
      → qs ≡ positions_of (map (spaced_along f h) (cells rows ps)) → qs ≡ spaced_positions rs
  spaces_are rs {classes} {rows} {ps} {qs} ec er ep eq =
      eq
      ∙ ap (λ (x : List SignRow). positions_of (map (spaced_along f h) (cells x ps))) (rows_are rs ec er)
      ∙ ap (λ (x : List Position). positions_of (map (spaced_along f h) (cells (mapped_rows rs) x))) (positions_are rs ec ep)

  module _ (keeps : Keeps f) where
    glyph_most : (o : Option ℕ) (code : ℕ) → f.glyph code ≡ o → unwrap_or o 0 ≤ 65535
    glyph_most (Some g) code e = keeps.glyph_high code g e
    glyph_most None code e = omega arith

    pub routed_glyphs : (rs : List SignRow) → AllGlyphs (mapped_rows rs)
    routed_glyphs [] = tt
    routed_glyphs (r ∷ rs) = (glyph_most (f.glyph r.code) r.code refl, routed_glyphs rs)

    along_near : (b : Bool) (g : ℕ) → Within 65535 (along f b g)
    along_near true g = let a = keeps.across_high g in (omega (arith, ints), omega (arith, ints))
    along_near false g =
        let a = keeps.down_low g in
        let c = keeps.down_high g in
        (omega (arith, ints), omega (arith, ints))

    size_near : (b : Bool) (n : ℕ) → n ≤ 65535 → Within 65535 (size b n)
    size_near true n q = (omega (arith, ints), omega (arith, ints))
    size_near false n q = (omega (arith, ints), omega (arith, ints))

    abbrev Near : Option ℤ → Type 0
    Near (Some a) = Within 65535 a
    Near None = Unit {0}

    next_near : (b : Bool) (o : Option ℕ) (other : Option ℤ) → Near other → Near (or_next f b o other)
    next_near b (Some g) other q = along_near b g
    next_near b None other q = q

    first_near : (b : Bool) (code n : ℕ) → Near (first_advance f b code n)
    first_near b code zero = tt
    first_near b code (suc n) = next_near b (f.glyph code) _ (first_near b (code + 1) n)

    else_near : (o other : Option ℤ) → Near o → Near other → Near (or_else o other)
    else_near (Some a) other p q = p
    else_near None other p q = q

    fraction_few : (t : ℕ) → is_fraction t ≡ true → t ≤ 16
    fraction_few t e =
        ⊎_elim (λ p. omega (arith, leb-true t 6 (and_parts (leb 1 t) (leb t 6) p).1)) (λ p. omega (arith, eqb-true t 16 p)) (or_cases (leb 1 t && leb t 6) (eqb t 16) e)

    own_near : (b : Bool) (t : ℕ) → Near (own_advance f b t)
    own_near b t =
        let m = keeps.em_high in
        cond_both (is_fraction t) _ _ Near (λ e. size_near b _ (omega (arith, fraction_few t e, div-le_self (f.em + t / 2) t, div-le_self t 2)))
        (λ e. cond_both (eqb t 17) _ _ Near (λ e. size_near b _ (omega (arith, div-le_self (f.em * 4) 18)))
        (λ e. cond_both (eqb t 19) _ _ Near (λ e. first_near b 48 10)
        (λ e. cond_both (eqb t 20) _ _ Near (λ e. else_near _ _ (first_near b 46 1) (first_near b 44 1)) (λ e. tt))))

    with_unmoved : (b : Bool) (a : ℤ) (p : Position) → Within 65535 a → Unmoved p → Unmoved (with_advance b a p)
    with_unmoved true a p q u = record { x_advance = q; y_advance = u.y_advance; x_offset = u.x_offset; y_offset = u.y_offset }
    with_unmoved false a p q u = record { x_advance = u.x_advance; y_advance = q; x_offset = u.x_offset; y_offset = u.y_offset }

    own_unmoved : (b : Bool) (o : Option ℤ) (p : Position) → Near o → Unmoved p → Unmoved (with_own b o p)
    own_unmoved b (Some a) p q u = with_unmoved b a p q u
    own_unmoved b None p q u = u

    halved_unmoved : (b : Bool) (p : Position) → Unmoved p → Unmoved (halved_along b p)
    halved_unmoved true p u = with_unmoved true _ p (omega (arith, ints, u.x_advance), omega (arith, ints, u.x_advance)) u
    halved_unmoved false p u = with_unmoved false _ p (omega (arith, ints, u.y_advance), omega (arith, ints, u.y_advance)) u

    space_unmoved : (b : Bool) (r : SignRow) (p : Position) → Unmoved p → Unmoved (space_position f b r p)
    space_unmoved b r p u =
        cond_both (is_space r && not (is_ligated r)) _ p Unmoved
        (λ e. cond_both (eqb (space_type r) 21) _ _ Unmoved (λ e. halved_unmoved b p u) (λ e. own_unmoved b (own_advance f b (space_type r)) p (own_near b (space_type r)) u))
        (λ e. u)

    mapped_unmoved : (b : Bool) (r : SignRow) → Unmoved (map_position f b r)
    mapped_unmoved true r =
        let z : Within 65535 (pos 0) = (omega (arith, ints), omega (arith, ints)) in
        record { x_advance = along_near true _; y_advance = z; x_offset = refl; y_offset = refl }
    mapped_unmoved false r =
        let z : Within 65535 (pos 0) = (omega (arith, ints), omega (arith, ints)) in
        record { x_advance = z; y_advance = along_near false _; x_offset = refl; y_offset = refl }

    -- the position of a sign up to its placement, whatever row it is spaced by
    pub spaced_unmoved : (r x : SignRow) → Unmoved (space_position f h x (map_position f h r))
    spaced_unmoved r x = space_unmoved h x _ (mapped_unmoved h r)

    pub routed_light : (rs : List SignRow) → AllLight (spaced_positions rs)
    routed_light [] = tt
    routed_light (r ∷ rs) = (unmoved_light _ (spaced_unmoved (reclassed r) (read_row (map_row f (reclassed r)))), routed_light rs)
