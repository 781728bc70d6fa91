-- The numbers of the refusals; the other definitions that the contracts cite are in trm_word, trm_reference, trm_cache and trm_core.
-- Paper: "Where calls are turned down".
pub mod Numbers
