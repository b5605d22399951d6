-- further parts of a concatenation, and whether a part has a width
pub mod Parts
-- the widths of names, and sides of mappings, as the code has them
pub mod Known
