mod MeaningRows
mod Units
mod Unfolded
