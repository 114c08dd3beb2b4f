use Rattle.lsp_shape.proofs.Clones.{cloned}
use Rattle.lsp_initialize.proofs.server.ServerCapabilitiesClone.clone.Goals as goal

pub returns : goal.returns
returns c = record {
  cases = cloned _ c.end.result c.end.ensures.copy c.end.ensures.whole (λ whole.
      let w33 = c.optional-34.ensures.whole whole in
      let w32 = c.optional-33.ensures.whole w33 in
      let w31 = c.optional-32.ensures.whole w32 in
      let w30 = c.optional-31.ensures.whole w31 in
      let w29 = c.optional-30.ensures.whole w30 in
      let w28 = c.optional-29.ensures.whole w29 in
      let w27 = c.optional-28.ensures.whole w28 in
      let w26 = c.optional-27.ensures.whole w27 in
      let w25 = c.optional-26.ensures.whole w26 in
      let w24 = c.optional-25.ensures.whole w25 in
      let w23 = c.optional-24.ensures.whole w24 in
      let w22 = c.optional-23.ensures.whole w23 in
      let w21 = c.optional-22.ensures.whole w22 in
      let w20 = c.optional-21.ensures.whole w21 in
      let w19 = c.optional-20.ensures.whole w20 in
      let w18 = c.optional-19.ensures.whole w19 in
      let w17 = c.optional-18.ensures.whole w18 in
      let w16 = c.optional-17.ensures.whole w17 in
      let w15 = c.optional-16.ensures.whole w16 in
      let w14 = c.optional-15.ensures.whole w15 in
      let w13 = c.optional-14.ensures.whole w14 in
      let w12 = c.optional-13.ensures.whole w13 in
      let w11 = c.optional-12.ensures.whole w12 in
      let w10 = c.optional-11.ensures.whole w11 in
      let w9 = c.optional-10.ensures.whole w10 in
      let w8 = c.optional-9.ensures.whole w9 in
      let w7 = c.optional-8.ensures.whole w8 in
      let w6 = c.optional-7.ensures.whole w7 in
      let w5 = c.optional-6.ensures.whole w6 in
      let w4 = c.optional-5.ensures.whole w5 in
      let w3 = c.optional-4.ensures.whole w4 in
      let w2 = c.optional-3.ensures.whole w3 in
      let w1 = c.optional-2.ensures.whole w2 in (
        c.optional.ensures.copy w1,
        c.optional-2.ensures.copy w2,
        c.optional-3.ensures.copy w3,
        c.optional-4.ensures.copy w4,
        c.optional-5.ensures.copy w5,
        c.optional-6.ensures.copy w6,
        c.optional-7.ensures.copy w7,
        c.optional-8.ensures.copy w8,
        c.optional-9.ensures.copy w9,
        c.optional-10.ensures.copy w10,
        c.optional-11.ensures.copy w11,
        c.optional-12.ensures.copy w12,
        c.optional-13.ensures.copy w13,
        c.optional-14.ensures.copy w14,
        c.optional-15.ensures.copy w15,
        c.optional-16.ensures.copy w16,
        c.optional-17.ensures.copy w17,
        c.optional-18.ensures.copy w18,
        c.optional-19.ensures.copy w19,
        c.optional-20.ensures.copy w20,
        c.optional-21.ensures.copy w21,
        c.optional-22.ensures.copy w22,
        c.optional-23.ensures.copy w23,
        c.optional-24.ensures.copy w24,
        c.optional-25.ensures.copy w25,
        c.optional-26.ensures.copy w26,
        c.optional-27.ensures.copy w27,
        c.optional-28.ensures.copy w28,
        c.optional-29.ensures.copy w29,
        c.optional-30.ensures.copy w30,
        c.optional-31.ensures.copy w31,
        c.optional-32.ensures.copy w32,
        c.optional-33.ensures.copy w33,
        c.optional-34.ensures.copy whole,
      ));
}
